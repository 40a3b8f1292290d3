-- The tape of a run's log is the one that the run needs.
use Rattle.std.proofs.Common.{◌≡◌, ℕ, Result, Ok, Err, IfOk, sym, subst}
use Rattle.base.specs.declared.outcomes.Outcome.{Outcome}
use Rattle.base.proofs.Options.{none_some}
use Rattle.base.proofs.Results.{same_ok}
use Rattle.trace_model.specs.Balance.{first_unbalanced}
use Rattle.trace_model.specs.declared.events.Log.{Log}
use Rattle.trace_model.specs.declared.tapes.Tape.{Tape}
use Rattle.record_replay_spec.specs.LogTapes.{IsLogTape}
use Rattle.trace_reduce.specs.Answers.{IsAnswer, IsFirstUnbalanced, IsReduction}
use Rattle.trace_reduce.specs.declared.faults.ReduceFault.{ReduceFault}
use Rattle.trace_reduce.specs.declared.faults.ReduceFault.TheVariants as faults
use Rattle.trace_reduce.specs.declared.faults.ReducerFault.{ReducerFault}
use Rattle.trace_reduce.specs.declared.faults.ReducerFault.TheVariants.{Unbalanced}
use Rattle.history_spec.specs.Run.{all_one, program_of, start_in_store, run_from}
use Rattle.tape_laws.specs.Dropped.{NothingCanBeDropped}
use Rattle.tape_laws.specs.NeededTape.{IsOneNeededTape, RunsHaveOneNeededTape}
use Rattle.tape_laws.specs.CallLaws.{OriginalRun}
use Rattle.tape_laws.specs.LogLaws.{LogsAreBalanced, LogsGiveNeededTapes}
use Rattle.replay_laws.specs.Tapes.{HasLog, HasNothingToSpareInRuns, IsTapeOfRuns}

needed_tape : LogsGiveNeededTapes → RunsHaveOneNeededTape → (log : Log) (tape : Tape) → IsLogTape log tape
    → IsTapeOfRuns log tape
needed_tape needed one log tape is run count outcome h =
    let found = needed run count outcome h.ends in
    let same : found.log ≡ log = same_ok _ found.log log found.logged h.logged in
    let of_run = found.from_log tape (subst (λ l. IsLogTape l tape) (sym same) is) in
    let lone = one run.m run.script run.supply run.store count outcome run.runnable run.fits run.supplied run.opens h.ends in
    subst
    (IsOneNeededTape run.m run.script run.store
    (run_from (program_of run.m run.script) all_one (start_in_store run.m run.script run.store) count).history outcome)
    (sym (lone.1.is_one tape.segments of_run)) lone.1

pub reduced_tape : LogsGiveNeededTapes → RunsHaveOneNeededTape → (log : Log) (answer : Result Tape ReduceFault)
    → IsReduction log answer → IfOk answer (IsTapeOfRuns log)
reduced_tape needed one log (Ok tape) h = needed_tape needed one log tape h.1
reduced_tape needed one log (Err fault) h = tt

pub answered_tape : LogsGiveNeededTapes → RunsHaveOneNeededTape → (most : ℕ) (log : Log)
    (answer : Result Tape ReducerFault) → IsAnswer most log answer → IfOk answer (IsTapeOfRuns log)
answered_tape needed one most log (Ok tape) h = needed_tape needed one log tape h.1.0
answered_tape needed one most log (Err fault) h = tt

-- ---- nothing to spare

needed_spares : NothingCanBeDropped → (log : Log) (tape : Tape) → IsTapeOfRuns log tape
    → HasNothingToSpareInRuns log tape
needed_spares dropped log tape is run count outcome has =
    let needed = is run count outcome has in (
      needed,
      dropped run.m run.script run.supply run.store tape.segments run.runnable run.core run.fits run.supplied
          run.opens needed.is_needed,
    )

pub spares : {E : Type 0} → NothingCanBeDropped → (log : Log) (answer : Result Tape E) → IfOk answer (IsTapeOfRuns log)
    → IfOk answer (HasNothingToSpareInRuns log)
spares dropped log (Ok tape) is = needed_spares dropped log tape is
spares dropped log (Err fault) is = tt

-- ---- the order of events

pub reduced_in_order : LogsAreBalanced → (log : Log) (answer : Result Tape ReduceFault) → IsReduction log answer
    → (run : OriginalRun) (count : ℕ) (outcome : Outcome) (event : ℕ) → HasLog run count outcome log
    → answer ≡ Err (faults.Unbalanced event) → ⊥
reduced_in_order balanced log answer h run count outcome event has is =
    none_some (first_unbalanced log) event (balanced run count outcome has.ends log has.logged)
    (subst (IsReduction log) is h)

pub answered_in_order : LogsAreBalanced → (most : ℕ) (log : Log) (answer : Result Tape ReducerFault)
    → IsAnswer most log answer
    → (run : OriginalRun) (count : ℕ) (outcome : Outcome) (event : ℕ) → HasLog run count outcome log
    → answer ≡ Err (Unbalanced event) → ⊥
answered_in_order balanced most log answer h run count outcome event has is =
    let unbalanced : IsFirstUnbalanced log event = subst (IsAnswer most log) is h in
    none_some (first_unbalanced log) unbalanced.place (balanced run count outcome has.ends log has.logged)
    unbalanced.first
