use Rattle.record_replay_spec.proofs.Tested.{tested_segments_are_needed}
use Rattle.record_replay_spec.proofs.laws.tested_segments_are_needed.Goals as goal

pub returns : goal.returns
returns c = tested_segments_are_needed
