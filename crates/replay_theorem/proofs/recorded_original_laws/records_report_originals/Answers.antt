use Rattle.replay_theorem.proofs.Originals.{reports}
use Rattle.replay_theorem.proofs.recorded_original_laws.records_report_originals.Goals as goal

pub returns : goal.returns
returns c = reports c.weights_mean_meters.ensures c.instrumented_runs_follow.ensures c.recorded_runs_are_replayed.ensures
