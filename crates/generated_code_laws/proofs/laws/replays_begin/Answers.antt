use Rattle.generated_code_laws.proofs.Whole.{replays_begin}
use Rattle.generated_code_laws.proofs.laws.replays_begin.Goals as goal

pub returns : goal.returns
returns c = replays_begin c.replay_modules_have_code.ensures.store
