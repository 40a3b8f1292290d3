-- The law.
use Rattle.pair_laws.proofs.LinkedSizes.{linked_are_short}
use Rattle.pair_laws.proofs.linked_laws.linked_are_short.Goals as goal

pub returns : goal.returns
returns c = linked_are_short
