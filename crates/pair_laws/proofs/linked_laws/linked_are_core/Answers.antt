-- The law.
use Rattle.pair_laws.proofs.LinkedCore.{linked_are_core}
use Rattle.pair_laws.proofs.linked_laws.linked_are_core.Goals as goal

pub returns : goal.returns
returns c = linked_are_core
