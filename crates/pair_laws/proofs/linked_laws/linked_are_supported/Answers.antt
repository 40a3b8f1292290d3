-- The law.
use Rattle.pair_laws.proofs.LinkedAccepted.{linked_are_supported}
use Rattle.pair_laws.proofs.linked_laws.linked_are_supported.Goals as goal

pub returns : goal.returns
returns c = linked_are_supported
