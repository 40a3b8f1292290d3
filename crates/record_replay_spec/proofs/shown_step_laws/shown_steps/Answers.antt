use Rattle.record_replay_spec.proofs.ShownSteps.{shown_steps_are_answered}
use Rattle.record_replay_spec.proofs.shown_step_laws.shown_steps.Goals as goal

pub returns : goal.returns
returns c = shown_steps_are_answered
