use Rattle.record_replay_spec.proofs.Indices.{hooks_are_answered}
use Rattle.record_replay_spec.proofs.hook_laws.hooks_are_answered.Goals as goal

pub returns : goal.returns
returns c = hooks_are_answered
