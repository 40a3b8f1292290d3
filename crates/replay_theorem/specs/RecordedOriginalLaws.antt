-- The law of records: the record of the run of an instrumented module determines how the original's run ends.
use Rattle.std.specs.Prelude.{◌≡◌, ℕ, ◌≤◌, Some, Ok}
use Rattle.wasm_syntax.specs.Index.{imported_funcs}
use Rattle.base.specs.declared.outcomes.Outcome.{Outcome}
use Rattle.trace_model.specs.declared.events.Log.{Log}
use Rattle.history_spec.specs.declared.entries.FaultKind.{FaultKind}
use Rattle.history_spec.specs.Budget.{IsSpent}
use Rattle.history_spec.specs.Run.{all_one}
use Rattle.history_spec.specs.Step.{Finished}
use Rattle.record_replay_spec.specs.Hooks.{renumbered_view}
use Rattle.record_replay_spec.specs.Instrumented.{instrumented_weights}
use Rattle.tape_laws.specs.CallLaws.{OriginalRun, hooked_shape}
use Rattle.tape_laws.specs.LogLaws.{log_of_run}
use Rattle.replay_theorem.specs.Laws.{IsShownFromLog}
use Rattle.instrumented_module_laws.specs.Links.{script_with_hooks}
use Rattle.instrumented_run_laws.specs.Laws.{instrumented_of, original_program, original_run, original_start}
use Rattle.host_play.specs.HookedResults.{hooked_run}
use Rattle.host_play.specs.Results.{IsFault}
use Rattle.run_recorder.specs.Records.{RecordedRun, IsFaulty, IsLog, IsOutOfOrder, IsSpentInOrder}

-- the run of the instrumented module of an original within a number of turns, as it is recorded
abbrev pub record_of : OriginalRun → (turns : ℕ) → RecordedRun
record_of run turns =
    record {
      run = hooked_run (instrumented_of run) (script_with_hooks run.m run.script)
          (renumbered_view (imported_funcs run.m) run.store) (Some (instrumented_weights run.m))
          (imported_funcs run.m) turns;
      shape = hooked_shape run;
      opened = renumbered_view (imported_funcs run.m) run.store;
    }

-- the original's run has this outcome within the turns; the log is that of this run, and the replay module of the
-- log's tape shows the run
pub record IsLogOfRun (run : OriginalRun) (turns : ℕ) (outcome : Outcome) (log : Log) : Type 0 where
  pub count : ℕ
  pub ends : (original_run run count).at ≡ Finished outcome
  pub in_budget : (original_run run count).turns ≤ turns
  pub logged : log_of_run run count outcome ≡ Ok log
  pub shown : IsShownFromLog run count (original_run run count).history outcome

-- a recorded log is that of the original's run; if the record ends by a fault of the script, or by spent turns, so
-- does the original's run; and no hook call is out of order
pub record ReportsOriginal (run : OriginalRun) (turns : ℕ) : Type 0 where
  pub logs : (outcome : Outcome) (log : Log) → IsLog (record_of run turns) outcome log
      → IsLogOfRun run turns outcome log
  pub faults : (turn : ℕ) (kind : FaultKind) → IsFaulty (record_of run turns) turn kind
      → IsFault (original_program run) (original_start run) turns turn kind
  pub spends : IsSpentInOrder (record_of run turns) → IsSpent (original_run run) all_one turns
  pub ordered : (number : ℕ) → IsOutOfOrder (record_of run turns) number → ⊥

-- the record of every instrumented run determines how the original's run ends
abbrev pub RecordsReportOriginals : Type 0
RecordsReportOriginals = (run : OriginalRun) (turns : ℕ) → ReportsOriginal run turns
