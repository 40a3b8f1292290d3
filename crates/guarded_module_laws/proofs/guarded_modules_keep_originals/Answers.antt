use Rattle.guarded_module_laws.proofs.Valid.{keep_originals}
use Rattle.guarded_module_laws.proofs.guarded_modules_keep_originals.Goals as goal

pub returns : goal.returns
returns c = record { originals = keep_originals }
