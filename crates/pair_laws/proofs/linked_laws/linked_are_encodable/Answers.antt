-- The law.
use Rattle.pair_laws.proofs.LinkedEncodable.{linked_are_encodable}
use Rattle.pair_laws.proofs.linked_laws.linked_are_encodable.Goals as goal

pub returns : goal.returns
returns c = linked_are_encodable c.encoding_forms.ensures.in_replay
