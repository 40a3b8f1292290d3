use Rattle.trace_format.proofs.Shrinking.{segments_shrink}
use Rattle.trace_format.proofs.files.tape_after.Goals as goal

pub whole_items-requires : goal.whole_items-requires
whole_items-requires c = segments_shrink c.segment_readers.ensures _
