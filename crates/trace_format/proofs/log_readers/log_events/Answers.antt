use Rattle.trace_bytes.specs.declared.tags.TheConstants.{LOG_MAGIC}
use Rattle.trace_format.specs.Taken.{IsLogTaken, TakesLog}
use Rattle.trace_format.proofs.FileAnswers.{reporting}
use Rattle.trace_format.proofs.Logs.{log_facts}
use Rattle.trace_format.proofs.log_readers.log_events.Goals as goal

pub returns : goal.returns
returns g c =
    let bytes = c.args.bytes.now in
    let reported = reporting LOG_MAGIC bytes _ _ _ _ (log_facts c.event_readers.ensures.numbers c.event_readers.ensures.events bytes)
    (TakesLog g.S.LogSink.takes c.args.sink.now c.events_in.new.sink)
    (λ outcome. IsLogTaken g.S.LogSink.takes bytes c.args.sink.now c.events_in.new.sink outcome)
    (λ content outcome read took. record { digest = content.0; log = content.1; spelled = read; taken = took })
    c.events_in.result c.events_in.ensures.answer in
    record {
      found = reported.found;
      only = λ digest log read. reported.only (digest, log) read;
      fault = reported.fault;
      whole = c.events_in.ensures.whole;
      unread = c.events_in.ensures.unread;
    }
