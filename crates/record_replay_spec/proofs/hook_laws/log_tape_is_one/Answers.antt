use Rattle.record_replay_spec.proofs.LogTapes.{log_tape_is_one}
use Rattle.record_replay_spec.proofs.hook_laws.log_tape_is_one.Goals as goal

pub returns : goal.returns
returns c = log_tape_is_one
