use Rattle.worked_replay_modules.proofs.Rests.{worked_rests}
use Rattle.worked_replay_modules.proofs.worked_rests_hold.Goals as goal

pub returns : goal.returns
returns c = worked_rests
