-- The law.
use Rattle.state_laws.proofs.CodeParts.{state_modules_have_code}
use Rattle.state_laws.proofs.module_laws.state_modules_have_code.Goals as goal

pub returns : goal.returns
returns c = state_modules_have_code
