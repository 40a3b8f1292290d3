use Rattle.std.proofs.Common.{List, Result, sym, subst}
use Rattle.record_replay_spec.specs.LogTapes.{Mark, AreLogSegments}
use Rattle.base.specs.declared.outcomes.Outcome.{Outcome}
use Rattle.trace_model.specs.declared.tapes.Tape.{Tape}
use Rattle.trace_reduce.specs.Answers.{IsWeighed}
use Rattle.trace_reduce.specs.Builder.{IsAtHost, end_marks}
use Rattle.trace_reduce.specs.declared.builder.TapeBuilder.{TapeBuilder}
use Rattle.trace_reduce.specs.declared.faults.ReducerFault.{ReducerFault}
use Rattle.trace_reduce.proofs.builder.TapeBuilder.finish.Goals as goal

-- the tape of a builder at the host, for a run with this outcome
abbrev Finishes : TapeBuilder → Result Tape ReducerFault → Outcome → Type 0
Finishes builder result outcome =
    (before marks : List Mark) → IsAtHost builder before marks
    → IsWeighed (λ (tape : Tape). AreLogSegments (end_marks outcome before marks) tape.segments) builder.tape.most result

pub returns-in-Ended-clause-host : goal.returns-in-Ended-clause-host
returns-in-Ended-clause-host c = subst (Finishes c.args.self c.end.result) (sym c.in-Ended.is) c.end.ensures

pub returns-in-Trapped-clause-host : goal.returns-in-Trapped-clause-host
returns-in-Trapped-clause-host c =
    subst (Finishes c.args.self c.into_tape.result) (sym c.in-Trapped.is) c.into_tape.ensures.host

pub returns-in-HostTrapped-clause-host : goal.returns-in-HostTrapped-clause-host
returns-in-HostTrapped-clause-host c =
    subst (Finishes c.args.self c.end-in-HostTrapped.result) (sym c.in-HostTrapped.is) c.end-in-HostTrapped.ensures
