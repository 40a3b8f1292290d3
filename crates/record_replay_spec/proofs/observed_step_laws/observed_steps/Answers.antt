use Rattle.record_replay_spec.proofs.Steps.{observed_steps_are_alike}
use Rattle.record_replay_spec.proofs.observed_step_laws.observed_steps.Goals as goal

pub returns : goal.returns
returns c = observed_steps_are_alike
