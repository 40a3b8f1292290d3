-- The law.
use Rattle.instance_laws.proofs.WidenedAccepted.{widened_are_supported}
use Rattle.instance_laws.proofs.widened_laws.widened_are_supported.Goals as goal

pub returns : goal.returns
returns c = widened_are_supported
