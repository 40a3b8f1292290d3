-- The law.
use Rattle.instance_laws.proofs.WidenedWithin.{widened_are_within}
use Rattle.instance_laws.proofs.widened_laws.widened_are_within.Goals as goal

pub returns : goal.returns
returns c = widened_are_within
