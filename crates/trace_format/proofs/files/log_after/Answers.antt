use Rattle.trace_format.proofs.Shrinking.{events_shrink}
use Rattle.trace_format.proofs.files.log_after.Goals as goal

pub whole_items-requires : goal.whole_items-requires
whole_items-requires c = events_shrink c.event_readers.ensures.events _
