use Rattle.std.proofs.Common.{ap}
use Rattle.trace_format.proofs.Tapes.{tape_facts}
use Rattle.trace_format.proofs.Writable.{segments_later}
use Rattle.trace_format.proofs.laws.tape_files.Goals as goal

pub returns : goal.returns
returns c = record {
  apart = λ bytes digest other tape second one two.
      let facts = tape_facts c.segment_readers.ensures bytes in
      let same = facts.one (digest, tape) (other, second) (facts.is_read (digest, tape) one) (facts.is_read (other, second) two) in
      (ap (λ p. p.0) same, ap (λ p. p.1) same);
  writable = λ bytes digest tape is. segments_later is.0 tape.segments is.1.segments;
}
