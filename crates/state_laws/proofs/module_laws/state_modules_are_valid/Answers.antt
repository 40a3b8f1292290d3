-- The law.
use Rattle.state_laws.proofs.ValidModules.{state_modules_are_valid}
use Rattle.state_laws.proofs.module_laws.state_modules_are_valid.Goals as goal

pub returns : goal.returns
returns c = state_modules_are_valid
