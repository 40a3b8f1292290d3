-- Logs of runs, and their tapes.
use Rattle.std.specs.Prelude.{◌≡◌, ℕ, Ok}
use Rattle.base.specs.declared.outcomes.Outcome.{Outcome}
use Rattle.trace_model.specs.declared.events.Log.{Log}
use Rattle.trace_model.specs.declared.tapes.Tape.{Tape}
use Rattle.history_spec.specs.Step.{Finished}
use Rattle.history_spec.specs.Run.{all_one, program_of, start_in_store, run_from}
use Rattle.tape_laws.specs.Dropped.{HasNothingToSpare}
use Rattle.tape_laws.specs.NeededTape.{IsOneNeededTape}
use Rattle.tape_laws.specs.CallLaws.{OriginalRun}
use Rattle.tape_laws.specs.LogLaws.{log_of_run}

-- the run has the outcome, and this is the log of its hook calls
pub record HasLog (run : OriginalRun) (count : ℕ) (outcome : Outcome) (log : Log) : Type 0 where
  pub ends : (run_from (program_of run.m run.script) all_one (start_in_store run.m run.script run.store) count).at
      ≡ Finished outcome
  pub logged : log_of_run run count outcome ≡ Ok log

-- the tape is the one that every run with this log needs: it fits the module and replays the run
abbrev pub IsTapeOfRuns : Log → Tape → Type 0
IsTapeOfRuns log tape =
    (run : OriginalRun) (count : ℕ) (outcome : Outcome) → HasLog run count outcome log
    → IsOneNeededTape run.m run.script run.store
    (run_from (program_of run.m run.script) all_one (start_in_store run.m run.script run.store) count).history outcome
    tape.segments

-- nothing can be removed from the tape that every run with this log needs: the run of what is left disagrees before it
-- has the history of the run, or has another
abbrev pub HasNothingToSpareInRuns : Log → Tape → Type 0
HasNothingToSpareInRuns log tape =
    (run : OriginalRun) (count : ℕ) (outcome : Outcome) → HasLog run count outcome log
    → (needed : IsOneNeededTape run.m run.script run.store
    (run_from (program_of run.m run.script) all_one (start_in_store run.m run.script run.store) count).history outcome
    tape.segments)
    × HasNothingToSpare run.m run.script run.store tape.segments needed.is_needed
