use Rattle.std.proofs.Common.{refl}
use Rattle.script_text.proofs.Members.{length-keys}
use Rattle.script_text.proofs.values.is_single.Goals as goal

pub returns : goal.returns
returns c = rw (c.len.ensures.len, length-keys c.args.object.now.entries) refl
