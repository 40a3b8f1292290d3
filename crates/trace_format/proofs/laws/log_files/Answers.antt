use Rattle.std.proofs.Common.{ap}
use Rattle.trace_format.proofs.Logs.{log_facts}
use Rattle.trace_format.proofs.Writable.{events_later}
use Rattle.trace_format.proofs.laws.log_files.Goals as goal

pub returns : goal.returns
returns c = record {
  apart = λ bytes digest other log second one two.
      let facts = log_facts c.event_readers.ensures.numbers c.event_readers.ensures.events bytes in
      let same = facts.one (digest, log) (other, second) (facts.is_read (digest, log) one) (facts.is_read (other, second) two) in
      (ap (λ p. p.0) same, ap (λ p. p.1) same);
  writable = λ bytes digest log is. events_later is.0 log.events is.1.events;
}
