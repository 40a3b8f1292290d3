use Rattle.replay_theorem.proofs.Recorded.{runs_are_recorded}
use Rattle.replay_theorem.proofs.recorded_run_laws.runs_are_recorded.Goals as goal

pub returns : goal.returns
returns c = runs_are_recorded c.instrumented_runs_follow.ensures c.runs_are_replayed_from_logs.ensures
