use Rattle.trace_format.proofs.Shrinking.{events_shrink}
use Rattle.trace_format.proofs.log_readers.events_after.Goals as goal

pub whole_events-requires : goal.whole_events-requires
whole_events-requires g c = events_shrink c.event_readers.ensures.events _
