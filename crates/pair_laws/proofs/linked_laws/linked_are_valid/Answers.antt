-- The law.
use Rattle.pair_laws.proofs.LinkedValid.{linked_are_valid}
use Rattle.pair_laws.proofs.linked_laws.linked_are_valid.Goals as goal

pub returns : goal.returns
returns c = linked_are_valid c.typings_are_kept.ensures
