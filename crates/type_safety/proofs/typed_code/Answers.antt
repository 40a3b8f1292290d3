use Rattle.type_safety.proofs.TypedCode.{heights_there, typed_code}
use Rattle.type_safety.proofs.typed_code.Goals as goal

pub returns : goal.returns
returns c = record { heights = heights_there; code = typed_code }
