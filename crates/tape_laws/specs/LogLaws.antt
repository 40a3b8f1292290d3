-- The laws of logs: the log of the hook calls of a run gives the tape that the run needs, and is balanced.
use Rattle.std.specs.Prelude.{◌≡◌, ℕ, Result, Ok}
use Rattle.wasm_syntax.specs.Index.{imported_funcs}
use Rattle.base.specs.declared.outcomes.Outcome.{Outcome}
use Rattle.trace_model.specs.declared.events.Log.{Log}
use Rattle.trace_model.specs.declared.tapes.Tape.{Tape}
use Rattle.trace_model.specs.Balance.{IsBalanced}
use Rattle.history_spec.specs.Store.{Store}
use Rattle.history_spec.specs.Step.{Finished}
use Rattle.history_spec.specs.Run.{all_one, program_of, start_in_store, run_from}
use Rattle.record_replay_spec.specs.Needed.{IsNeededTape}
use Rattle.record_replay_spec.specs.Hooks.{renumbered_view}
use Rattle.record_replay_spec.specs.Logs.{log_of}
use Rattle.record_replay_spec.specs.LogTapes.{IsLogTape}
use Rattle.tape_laws.specs.CallLaws.{OriginalRun, hooked_shape, calls_of_run}

-- the store in which the instrumented module begins
abbrev pub opened_store : OriginalRun → Store
opened_store run = renumbered_view (imported_funcs run.m) run.store

-- the log of the hook calls of a run
abbrev pub log_of_run : OriginalRun → (count : ℕ) → Outcome → Result Log ℕ
log_of_run run count outcome = log_of (hooked_shape run) (opened_store run) (calls_of_run run count) outcome

-- ---- the laws

-- a run that has an outcome has a log, and a tape is the tape of that log if and only if it is the one that the run
-- needs
pub record HasNeededLog (run : OriginalRun) (count : ℕ) (outcome : Outcome) : Type 0 where
  pub log : Log
  pub logged : log_of_run run count outcome ≡ Ok log
  pub to_log : (tape : Tape)
      → IsNeededTape (program_of run.m run.script) (start_in_store run.m run.script run.store) run.store tape.segments
      → IsLogTape log tape
  pub from_log : (tape : Tape) → IsLogTape log tape
      → IsNeededTape (program_of run.m run.script) (start_in_store run.m run.script run.store) run.store tape.segments

-- each run that has an outcome has a log, whose tape is the one that the run needs
abbrev pub LogsGiveNeededTapes : Type 0
LogsGiveNeededTapes =
    (run : OriginalRun) (count : ℕ) (outcome : Outcome)
    → (run_from (program_of run.m run.script) all_one (start_in_store run.m run.script run.store) count).at
    ≡ Finished outcome
    → HasNeededLog run count outcome

-- the log of a run that has an outcome is balanced
abbrev pub LogsAreBalanced : Type 0
LogsAreBalanced =
    (run : OriginalRun) (count : ℕ) (outcome : Outcome)
    → (run_from (program_of run.m run.script) all_one (start_in_store run.m run.script run.store) count).at
    ≡ Finished outcome
    → (log : Log) → log_of_run run count outcome ≡ Ok log → IsBalanced log
