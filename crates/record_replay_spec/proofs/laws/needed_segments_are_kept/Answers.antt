use Rattle.record_replay_spec.proofs.Kept.{needed_segments_are_kept}
use Rattle.record_replay_spec.proofs.laws.needed_segments_are_kept.Goals as goal

pub returns : goal.returns
returns c = needed_segments_are_kept
