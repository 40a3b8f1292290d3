use Rattle.std.proofs.Common.{◌≡◌, drop}
use Rattle.trace_model.specs.Effects.{are_ordered_after}
use Rattle.trace_model.proofs.ordering.are_ordered.Given as goal

abbrev pub invariant-others : goal.invariant-others
invariant-others l = are_ordered_after l.initial.last l.others ≡ are_ordered_after l.last (drop l.next-index l.others)
