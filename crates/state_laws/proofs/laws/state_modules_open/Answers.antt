-- The law.
use Rattle.state_laws.proofs.Opening.{state_modules_open}
use Rattle.state_laws.proofs.laws.state_modules_open.Goals as goal

pub returns : goal.returns
returns c = state_modules_open
