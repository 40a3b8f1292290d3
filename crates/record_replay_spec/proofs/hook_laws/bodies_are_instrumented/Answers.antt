use Rattle.record_replay_spec.proofs.Bodies.{bodies_are_instrumented}
use Rattle.record_replay_spec.proofs.hook_laws.bodies_are_instrumented.Goals as goal

pub returns : goal.returns
returns c = bodies_are_instrumented
