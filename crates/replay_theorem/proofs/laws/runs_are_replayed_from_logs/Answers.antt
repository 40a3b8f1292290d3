use Rattle.replay_theorem.proofs.Whole.{runs_are_replayed_from_logs}
use Rattle.replay_theorem.proofs.laws.runs_are_replayed_from_logs.Goals as goal

pub returns : goal.returns
returns c = runs_are_replayed_from_logs c.logs_give_needed_tapes.ensures c.runs_are_replayed.ensures
