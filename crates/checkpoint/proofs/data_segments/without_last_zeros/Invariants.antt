use Rattle.std.proofs.Common.{◌≡◌, length}
use Rattle.rest_spec.specs.StateSegments.{without_last_zeros}
use Rattle.checkpoint.proofs.data_segments.without_last_zeros.Given as goal

abbrev pub invariant-bytes : goal.invariant-bytes
invariant-bytes l = without_last_zeros l.bytes ≡ without_last_zeros l.fn.bytes

abbrev pub decreases-bytes : goal.decreases-bytes
decreases-bytes l = length l.bytes
