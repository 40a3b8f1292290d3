use Rattle.replay_module_laws.proofs.Functions.{replay_code}
use Rattle.replay_module_laws.proofs.Openings.{opens}
use Rattle.replay_module_laws.proofs.codes.replay_modules_have_code.Goals as goal

pub returns-clause-code : goal.returns-clause-code
returns-clause-code c = replay_code

pub returns-clause-store : goal.returns-clause-store
returns-clause-store c = opens
