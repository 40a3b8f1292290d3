-- The law.
use Rattle.instance_laws.proofs.WidenedSizes.{widened_are_short}
use Rattle.instance_laws.proofs.widened_laws.widened_are_short.Goals as goal

pub returns : goal.returns
returns c = widened_are_short
