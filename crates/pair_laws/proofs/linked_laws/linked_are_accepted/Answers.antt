-- The law.
use Rattle.pair_laws.proofs.LinkedAccepted.{linked_are_accepted}
use Rattle.pair_laws.proofs.linked_laws.linked_are_accepted.Goals as goal

pub returns : goal.returns
returns c = linked_are_accepted c.linked_are_valid.ensures
