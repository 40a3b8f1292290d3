-- The laws of recorded runs.
use Rattle.std.specs.Prelude.{◌≡◌, ◌≢◌, ℕ, Result, Err}
use Rattle.wasm_syntax.specs.declared.modules.Module.{Module}
use Rattle.host_script.specs.declared.scripts.Script.{Script}
use Rattle.host_script.specs.Fits.{Fits}
use Rattle.base.specs.declared.outcomes.Outcome.{Outcome}
use Rattle.trace_model.specs.declared.events.Log.{Log}
use Rattle.trace_bytes.specs.declared.tags.TheConstants.{VERSION_2}
use Rattle.trace_bytes.specs.Spelled.{FitEvents}
use Rattle.history_spec.specs.Store.{Store}
use Rattle.type_safety.specs.Stores.{IsStore}
use Rattle.type_safety.specs.Supplies.{IsRunnable}
use Rattle.wasm_flat.specs.Meters.{Weighing}
use Rattle.wasm_flat.specs.Sizes.{IsShort}
use Rattle.record_replay_spec.specs.Order.{shape_of}
use Rattle.host_play.specs.declared.results.PlayFault.{PlayFault}
use Rattle.host_play.specs.declared.results.PlayFault.TheVariants as refusal
use Rattle.host_play.specs.HookedResults.{HasHooksAfter, hooked_run}
use Rattle.run_recorder.specs.Records.{RecordedRun, IsLog, IsRecord}

-- the recorded run of a module in the hooked form, with this number of imports before its hooks, from a store
abbrev pub recorded_run : Module → Script → Store → Weighing → (imports budget : ℕ) → RecordedRun
recorded_run m script store weighing imports budget =
    record {
      run = hooked_run m script store weighing imports budget;
      shape = shape_of imports m;
      opened = store;
    }

-- a module in the hooked form that can be run, with short lists, a script that fits it, and a store of it
pub record IsRecordable (m : Module) (script : Script) (store : Store) (imports : ℕ) : Type 0 where
  pub runnable : IsRunnable m
  pub short : IsShort m
  pub hooked : HasHooksAfter m imports
  pub fits : Fits m script
  pub typed : IsStore m store

-- ---- laws

-- the log of a recorded run has a spelling
abbrev pub LogsHaveSpellings : Type 0
LogsHaveSpellings =
    (m : Module) (script : Script) (store : Store) (weighing : Weighing) (imports budget : ℕ)
    → IsRecordable m script store imports → (outcome : Outcome) (log : Log)
    → IsLog (recorded_run m script store weighing imports budget) outcome log → FitEvents VERSION_2 log.events

-- a recorded run has at most one answer, but for a lack of memory
abbrev pub RecordsAreOne : Type 0
RecordsAreOne =
    (r : RecordedRun) (a b : Result Log PlayFault) → a ≢ Err refusal.Memory → b ≢ Err refusal.Memory
    → IsRecord r a → IsRecord r b → a ≡ b
