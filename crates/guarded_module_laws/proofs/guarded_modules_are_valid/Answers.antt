use Rattle.guarded_module_laws.proofs.Valid.{are_valid}
use Rattle.guarded_module_laws.proofs.guarded_modules_are_valid.Goals as goal

pub returns : goal.returns
returns c = record { valid = are_valid }
