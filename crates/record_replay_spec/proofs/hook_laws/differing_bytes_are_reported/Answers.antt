use Rattle.record_replay_spec.proofs.LongestRuns.{differing_bytes_are_reported}
use Rattle.record_replay_spec.proofs.hook_laws.differing_bytes_are_reported.Goals as goal

pub returns : goal.returns
returns c = differing_bytes_are_reported
