use Rattle.hook_insert.proofs.Encodable.{instrumented_are_encodable}
use Rattle.hook_insert.proofs.encoding_laws.instrumented_are_encodable.Goals as goal

pub returns : goal.returns
returns c = instrumented_are_encodable c.bodies_are_read.ensures c.bodies_are_instrumented.ensures c.encoding_forms.ensures.in_replay
