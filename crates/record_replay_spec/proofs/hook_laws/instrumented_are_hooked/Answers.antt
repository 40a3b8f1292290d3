use Rattle.record_replay_spec.proofs.Modules.{instrumented_are_hooked}
use Rattle.record_replay_spec.proofs.hook_laws.instrumented_are_hooked.Goals as goal

pub returns : goal.returns
returns c = instrumented_are_hooked
