use Rattle.std.proofs.Common.{sym, subst}
use Rattle.record_replay_spec.specs.LogTapes.{AreLogSegments}
use Rattle.trace_model.specs.declared.tapes.Tape.{Tape}
use Rattle.trace_reduce.specs.Answers.{IsWeighed}
use Rattle.trace_reduce.specs.Builder.{AreBuilt}
use Rattle.trace_reduce.proofs.Segments.{built_answer}
use Rattle.trace_reduce.proofs.builder.TapeBuilder.into_tape.Goals as goal

pub returns-clause-window : goal.returns-clause-window
returns-clause-window c =
    λ marks h.
    subst (λ most. IsWeighed (λ (tape : Tape). AreLogSegments marks tape.segments) most c.into_tape.result)
    c.in-Ok.ensures.most
    (built_answer c.close_window.new.self.tape c.close_window.new.self.tape.most marks c.into_tape.result
    ((c.in-Ok.ensures.closes marks h).closed) c.into_tape.ensures)

pub returns-clause-host : goal.returns-clause-host
returns-clause-host c =
    λ before marks h.
    subst (λ most. IsWeighed (λ (tape : Tape). AreLogSegments before tape.segments) most c.into_tape.result)
    c.in-Ok.ensures.most
    (built_answer c.close_window.new.self.tape c.close_window.new.self.tape.most before c.into_tape.result
    (subst (λ tape. AreBuilt tape before) (sym (c.in-Ok.ensures.stays h.over.waits)) h.over.closed)
    c.into_tape.ensures)
