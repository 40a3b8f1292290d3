use Rattle.std.proofs.Common.{◌≡◌, Some, arith}
use Rattle.trace_format.specs.Reading.{first_event}
use Rattle.trace_format.proofs.Taken.{one_more_taken}
use Rattle.trace_format.proofs.log_readers.whole_events.Goals as goal

pub events-preserved : goal.events-preserved
events-preserved g c =
    let next : first_event c.args.version c.events.rest.now ≡ Some (c.in-Some.event, c.in-Some.after.now) =
    rw c.in-Some.is at c.in_ok-event.ensures in
    record {
      taken = one_more_taken (first_event c.args.version) g.S.LogSink.takes c.args.bytes.now c.events.rest.now
          c.in-Some.after.now c.args.sink.now c.events.sink c.take.new.self c.in-Some.event
          c.events.invariant.taken next c.in_ok-take.ensures;
      shorter = omega (arith, c.requires c.events.rest.now c.in-Some.after.now c.in-Some.event next, c.events.invariant.shorter);
    }
