use Rattle.replay_module_laws.proofs.TypedOriginals.{originals_typed}
use Rattle.replay_module_laws.proofs.originals_are_typed.Goals as goal

pub returns : goal.returns
returns c = record { typed = originals_typed c.replay_modules_have_code.ensures.code }
