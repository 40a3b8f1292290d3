use Rattle.std.proofs.Common.{sym, ◌∙◌}
use Rattle.linked_pair.proofs.link.fault_or_linked.Goals as goal

pub returns-in-Some : goal.returns-in-Some
returns-in-Some c = sym c.in_ok-fault.ensures ∙ c.in-Some.is

pub pair_of_ends-requires-clause-linkable : goal.pair_of_ends-requires-clause-linkable
pair_of_ends-requires-clause-linkable c =
    record { left = c.requires.left; right = c.requires.right; no_fault = sym c.in_ok-fault.ensures ∙ c.in-None.is }
