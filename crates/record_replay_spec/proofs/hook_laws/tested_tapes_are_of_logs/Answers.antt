use Rattle.record_replay_spec.proofs.TestedTapes.{tested_tapes_are_of_logs}
use Rattle.record_replay_spec.proofs.hook_laws.tested_tapes_are_of_logs.Goals as goal

pub returns : goal.returns
returns c = tested_tapes_are_of_logs
