-- The laws of recorded runs: the log of the run of an instrumented module is that of the original's run, and the
-- replay module of its tape shows the original's run.
use Rattle.std.specs.Prelude.{◌≡◌, ℕ, List, Result, Some}
use Rattle.wasm_syntax.specs.declared.modules.Module.{Module}
use Rattle.wasm_syntax.specs.Index.{imported_funcs}
use Rattle.base.specs.declared.outcomes.Outcome.{Outcome}
use Rattle.trace_model.specs.declared.events.Log.{Log}
use Rattle.history_spec.specs.Step.{Finished}
use Rattle.wasm_flat.specs.Meters.{meter_of}
use Rattle.record_replay_spec.specs.Hooks.{renumbered_view}
use Rattle.record_replay_spec.specs.Instrumented.{instrumented_module, instrumented_weights, instrumented_meter}
use Rattle.record_replay_spec.specs.Logs.{log_of}
use Rattle.tape_laws.specs.CallLaws.{OriginalRun, hooked_shape}
use Rattle.tape_laws.specs.LogLaws.{log_of_run}
use Rattle.instrumented_run_laws.specs.Laws.{original_run, instrumented_run, instrumented_calls}
use Rattle.replay_theorem.specs.Laws.{IsShownFromLog}

-- ---- meters

-- the weights of an instrumented module's instructions, as flat code has them, give the meter under which its run
-- follows the original's
abbrev pub WeightsMeanMeters : Type 0
WeightsMeanMeters =
    (m : Module) (digest : List ℕ)
    → meter_of (instrumented_module m digest) (Some (instrumented_weights m)) ≡ instrumented_meter m

-- ---- records

-- the log of the hook calls of `steps` steps of the instrumented run, or the number of the first call out of order
abbrev pub recorded_log : OriginalRun → (steps : ℕ) → Outcome → Result Log ℕ
recorded_log run steps outcome =
    log_of (hooked_shape run) (renumbered_view (imported_funcs run.m) run.store) (instrumented_calls run steps) outcome

-- After `steps` steps the instrumented run has an outcome, and after `count` steps the original's run has it, in
-- equally many turns; the recorded log is that of the original's run; and the replay module of the one tape of this
-- log shows the original's history and outcome.
pub record IsRecorded (run : OriginalRun) (count steps : ℕ) (outcome : Outcome) : Type 0 where
  pub original : (original_run run count).at ≡ Finished outcome
  pub instrumented : (instrumented_run run steps).at ≡ Finished outcome
  pub turns : (instrumented_run run steps).turns ≡ (original_run run count).turns
  pub log : recorded_log run steps outcome ≡ log_of_run run count outcome
  pub shown : IsShownFromLog run count (original_run run count).history outcome

-- if the instrumented run has an outcome, it records a run of the original
abbrev pub RecordedRunsAreReplayed : Type 0
RecordedRunsAreReplayed =
    (run : OriginalRun) (steps : ℕ) (outcome : Outcome) → (instrumented_run run steps).at ≡ Finished outcome
    → (count : ℕ) × IsRecorded run count steps outcome

-- if the original's run has an outcome, the instrumented run records it
abbrev pub RunsAreRecorded : Type 0
RunsAreRecorded =
    (run : OriginalRun) (count : ℕ) (outcome : Outcome) → (original_run run count).at ≡ Finished outcome
    → (steps : ℕ) × IsRecorded run count steps outcome
