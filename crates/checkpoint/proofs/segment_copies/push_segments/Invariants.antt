use Rattle.std.proofs.Common.{◌≡◌, ◌++◌, take}
use Rattle.checkpoint.proofs.segment_copies.push_segments.Given as goal

abbrev pub invariant-segments : goal.invariant-segments
invariant-segments l = l.copies.items ≡ l.fn.copies.items ++ take l.segment-index l.segments
