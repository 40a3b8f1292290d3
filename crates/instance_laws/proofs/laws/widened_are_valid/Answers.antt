-- The law.
use Rattle.instance_laws.proofs.WidenedValid.{widened_are_valid}
use Rattle.instance_laws.proofs.laws.widened_are_valid.Goals as goal

pub returns : goal.returns
returns c = widened_are_valid
