use Rattle.std.proofs.Common.{◌++◌, ◌∷◌, [], subst}
use Rattle.record_replay_spec.specs.LogTapes.{Ends, AreLogSegments}
use Rattle.trace_model.specs.declared.tapes.Tape.{Tape}
use Rattle.trace_reduce.specs.Answers.{IsWeighed}
use Rattle.trace_reduce.proofs.builder.TapeBuilder.end.Goals as goal

pub returns : goal.returns
returns c =
    λ before marks h.
    subst
    (λ most. IsWeighed (λ (tape : Tape). AreLogSegments (marks ++ Ends c.args.next ∷ []) tape.segments) most
    c.into_tape.result)
    c.in-Ok.ensures.most
    (c.into_tape.ensures.window (marks ++ Ends c.args.next ∷ []) (c.in-Ok.ensures.mark before marks h))
