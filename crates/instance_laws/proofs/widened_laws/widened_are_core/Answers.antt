-- The law.
use Rattle.instance_laws.proofs.WidenedEncodable.{widened_are_core}
use Rattle.instance_laws.proofs.widened_laws.widened_are_core.Goals as goal

pub returns : goal.returns
returns c = widened_are_core
