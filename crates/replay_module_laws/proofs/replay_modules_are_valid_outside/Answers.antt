use Rattle.replay_module_laws.proofs.ValidOutside.{valid_outside}
use Rattle.replay_module_laws.proofs.replay_modules_are_valid_outside.Goals as goal

pub returns : goal.returns
returns c = record { outside = valid_outside c.replay_modules_have_code.ensures.code }
