use Rattle.replay_theorem.proofs.Recorded.{weights_mean_meters}
use Rattle.replay_theorem.proofs.recorded_run_laws.weights_mean_meters.Goals as goal

pub returns : goal.returns
returns c = weights_mean_meters c.instrumented_keep_indices.ensures
