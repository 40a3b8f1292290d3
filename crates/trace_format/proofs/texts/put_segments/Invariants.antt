use Rattle.std.proofs.Common.{◌≡◌, ◌++◌, take}
use Rattle.std.specs.Prelude.{flat_map}
use Rattle.trace_format.specs.Text.{segment_text}
use Rattle.trace_format.proofs.texts.put_segments.Given as goal

abbrev pub invariant-segments : goal.invariant-segments
invariant-segments l = l.out.items ≡ l.fn.out.items ++ flat_map segment_text (take l.segment-index l.segments)
