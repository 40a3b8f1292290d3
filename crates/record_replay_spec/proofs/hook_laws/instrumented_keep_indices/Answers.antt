use Rattle.record_replay_spec.proofs.Modules.{instrumented_keep_indices}
use Rattle.record_replay_spec.proofs.hook_laws.instrumented_keep_indices.Goals as goal

pub returns : goal.returns
returns c = instrumented_keep_indices
