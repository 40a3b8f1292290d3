-- What is needed to record the run of a module.
use Rattle.std.specs.Prelude.{◌≡◌, ℕ, ◌≤◌, List, length, Some, false}
use Rattle.wasm_syntax.specs.declared.limits.TheConstants.{MAX_ORIGINAL_BYTES}
use Rattle.wasm_syntax.specs.declared.modules.Module.{Module}
use Rattle.wasm_syntax.specs.Index.{imported_funcs}
use Rattle.wasm_syntax.specs.Profile.{IsAccepted}
use Rattle.wasm_syntax.specs.ListsWithin.{HasListsWithin}
use Rattle.wasm_flat.specs.Bounds.{IsBound}
use Rattle.wasm_flat.specs.FlatCode.{flat_of}
use Rattle.host_script.specs.declared.scripts.Script.{Script}
use Rattle.host_script.specs.declared.scripts.Supply.{Supply}
use Rattle.history_spec.specs.Store.{Store}
use Rattle.host_play.specs.declared.script_runs.Play.{Play}
use Rattle.type_safety.specs.Supplies.{HasBytes}
use Rattle.record_replay_spec.specs.Hooks.{renumbered_view}
use Rattle.record_replay_spec.specs.Instrumented.{instrumented_module, instrumented_weights}
use Rattle.tape_laws.specs.CallLaws.{OriginalRun}
use Rattle.instrumented_module_laws.specs.Laws.{HasWords}
use Rattle.instrumented_module_laws.specs.Links.{script_with_hooks}
use Rattle.instrumented_run_laws.specs.Laws.{instrumented_of}
use Rattle.r3_inputs.specs.Inputs.{IsModuleOf}
use Rattle.accepted_runs.specs.Runnable.{CanRun}
use Rattle.r3_make.specs.declared.recorded_runs.HookedInputs.{HookedInputs}

-- a module that can be recorded: some bytes encode it, at most `MAX_ORIGINAL_BYTES`, and none of its lists has more
-- items than these; it is accepted, and its data are bytes
pub record IsOriginalModule (m : Module) : Type 0 where
  pub bytes : List ℕ
  pub is_module : IsModuleOf bytes m
  pub small : length bytes ≤ MAX_ORIGINAL_BYTES
  pub within : HasListsWithin (length bytes) m
  pub has_bytes : HasBytes m

-- the instrumented module of a module that can be recorded, with some digest, its meter, and the script for it
pub record AreHookedInputs (m : Module) (script : Script) (inputs : HookedInputs) : Type 0 where
  pub original : IsOriginalModule m
  pub can_run : CanRun m script
  pub digest : List ℕ
  pub hooked : inputs.hooked ≡ instrumented_module m digest
  pub meter : inputs.meter ≡ Some (instrumented_weights m)
  pub script_is : inputs.script ≡ script_with_hooks m script
  pub imports : inputs.imports ≡ imported_funcs m

-- the instantiation of the instrumented module begins with the store of the original, with functions renumbered
pub record IsHookedPlay (m : Module) (store : Store) (inputs : HookedInputs) (play : Play) : Type 0 where
  pub opens : play.store ≡ renumbered_view (imported_funcs m) store
  pub code : play.code.now ≡ inputs.hooked
  pub script : play.script.now ≡ inputs.script
  pub flat : play.flat ≡ flat_of inputs.hooked
  pub bound : IsBound play.flat

-- ---- the run of the original

-- assumptions on the original's module
pub record IsOriginal (run : OriginalRun) : Type 0 where
  pub accepted : IsAccepted false run.m
  pub bytes : HasBytes run.m
  pub words : HasWords run.m
  pub most : ℕ
  pub within : HasListsWithin most run.m
  pub few : most ≤ MAX_ORIGINAL_BYTES

-- the instrumented module of a run's original, its meter, and the script for it
pub record AreHooked (run : OriginalRun) (inputs : HookedInputs) : Type 0 where
  pub hooked : inputs.hooked ≡ instrumented_of run
  pub meter : inputs.meter ≡ Some (instrumented_weights run.m)
  pub script : inputs.script ≡ script_with_hooks run.m run.script
  pub imports : inputs.imports ≡ imported_funcs run.m

-- assumptions under which a run is recorded
pub record IsRecordable (run : OriginalRun) (inputs : HookedInputs) (supply : Supply) : Type 0 where
  pub original : IsOriginal run
  pub inputs_are : AreHooked run inputs
  pub supply_is : supply ≡ run.supply
