use Rattle.std.proofs.Common.{refl}
use Rattle.decl_text.proofs.Counts.{count-items}
use Rattle.decl_text.proofs.types.is_longer.Goals as goal

pub returns : goal.returns
returns c = rw (count-items c.args.values.now) refl
