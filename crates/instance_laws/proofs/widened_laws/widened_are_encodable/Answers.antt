-- The law.
use Rattle.instance_laws.proofs.WidenedEncodable.{widened_are_encodable}
use Rattle.instance_laws.proofs.widened_laws.widened_are_encodable.Goals as goal

pub returns : goal.returns
returns c = widened_are_encodable c.encoding_forms.ensures.in_replay
