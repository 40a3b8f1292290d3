use Rattle.replay_theorem.proofs.Recorded.{recorded_runs_are_replayed}
use Rattle.replay_theorem.proofs.recorded_run_laws.recorded_runs_are_replayed.Goals as goal

pub returns : goal.returns
returns c =
    recorded_runs_are_replayed c.instrumented_runs_follow.ensures c.runs_are_replayed_from_logs.ensures
