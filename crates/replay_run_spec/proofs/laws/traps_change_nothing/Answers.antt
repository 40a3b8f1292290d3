use Rattle.replay_run_spec.proofs.Traps.{traps_still}
use Rattle.replay_run_spec.proofs.laws.traps_change_nothing.Goals as goal

pub returns : goal.returns
returns c = traps_still
