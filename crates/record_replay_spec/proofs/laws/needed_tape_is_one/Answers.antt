use Rattle.record_replay_spec.proofs.OneTape.{needed_tape_is_one}
use Rattle.record_replay_spec.proofs.laws.needed_tape_is_one.Goals as goal

pub returns : goal.returns
returns c = needed_tape_is_one
