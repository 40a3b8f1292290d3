use Rattle.record_replay_spec.proofs.Kept.{known_is_kept}
use Rattle.record_replay_spec.proofs.laws.known_is_kept.Goals as goal

pub returns : goal.returns
returns c = known_is_kept
