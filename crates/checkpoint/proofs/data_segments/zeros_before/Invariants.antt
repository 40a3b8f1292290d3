use Rattle.std.proofs.Common.{◌≡◌, ◌+◌, drop}
use Rattle.rest_spec.specs.StateSegments.{zeros_before}
use Rattle.checkpoint.proofs.data_segments.zeros_before.Given as goal

abbrev pub invariant-bytes : goal.invariant-bytes
invariant-bytes l = zeros_before l.bytes ≡ l.place + zeros_before (drop l.place l.bytes)
