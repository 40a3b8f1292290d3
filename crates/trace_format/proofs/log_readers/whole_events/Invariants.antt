use Rattle.std.proofs.Common.{◌≤◌, length}
use Rattle.trace_format.specs.Reading.{first_event}
use Rattle.trace_format.specs.Taken.{AreTaken}
use Rattle.trace_format.proofs.log_readers.whole_events.Given as goal

abbrev pub invariant-events : goal.invariant-events
invariant-events g l = record {
  taken : AreTaken (first_event l.fn.version) g.S.LogSink.takes l.bytes l.rest l.fn.sink l.sink;
  shorter : length l.rest ≤ length l.bytes;
}

abbrev pub decreases-events : goal.decreases-events
decreases-events g l = length l.rest
