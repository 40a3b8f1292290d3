-- The law.
use Rattle.state_laws.proofs.SizesModules.{state_modules_are_short}
use Rattle.state_laws.proofs.module_laws.state_modules_are_short.Goals as goal

pub returns : goal.returns
returns c = state_modules_are_short
