-- The law.
use Rattle.pair_laws.proofs.LinkedWithin.{linked_are_within}
use Rattle.pair_laws.proofs.linked_laws.linked_are_within.Goals as goal

pub returns : goal.returns
returns c = linked_are_within
