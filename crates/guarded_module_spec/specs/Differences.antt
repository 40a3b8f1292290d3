-- Modules with other functions in the originals' places, and what it means that all checks are passed.
use Rattle.std.specs.Prelude.{◌≡◌, ℕ, List, ◌++◌, map, Some, slice_get}
use Rattle.wasm_syntax.specs.declared.modules.Func.{Func}
use Rattle.wasm_syntax.specs.declared.modules.Module.{Module}
use Rattle.base.specs.declared.outcomes.Outcome.{Outcome}
use Rattle.history_spec.specs.Code.{i32_value}
use Rattle.history_spec.specs.Store.{Store}
use Rattle.history_spec.specs.Step.{Finished, StepResult}
use Rattle.history_spec.specs.Projection.{Layout}
use Rattle.type_safety.specs.Supplies.{IsRunnable}
use Rattle.guarded_module_spec.specs.declared.numbers.Numbers.{Numbers}
use Rattle.guarded_module_spec.specs.Numbers.{begun, passed}
use Rattle.guarded_module_spec.specs.GuardedModules.{funcs_in_places, original_funcs, appended_funcs}
use Rattle.guarded_module_spec.specs.Forms.{IsGuardable}
use Rattle.guarded_module_spec.specs.Runs.{run_alone, store_alone}

-- a module with other functions in the originals' places
abbrev pub with_originals : Layout → List Func → Module → Module
with_originals layout others m =
    record m { funcs = funcs_in_places layout m.funcs ++ (others ++ appended_funcs layout m.funcs) }

-- other functions, of the types of those in whose places they are, with which the module is still valid and guardable
pub record AreOthers (m : Module) (layout : Layout) (entry : ℕ) (others : List Func) : Type 0 where
  pub types : map (λ (f : Func). f.ty) others ≡ map (λ (f : Func). f.ty) (original_funcs layout m.funcs)
  pub runnable : IsRunnable (with_originals layout others m)
  pub guardable : IsGuardable (with_originals layout others m) layout entry

-- so many checks have begun, and so many are passed
pub record HasCounts (n : Numbers) (store : Store) (begun_count passed_count : ℕ) : Type 0 where
  pub begun_is : slice_get store.globals (begun n) ≡ Some (i32_value begun_count)
  pub passed_is : slice_get store.globals (passed n) ≡ Some (i32_value passed_count)

-- the run is over after this number of steps, and then all checks have begun and are passed, as a harness sees that
-- reads the three globals
pub record IsPassed (m : Module) (n : Numbers) (initial : StepResult) (count checks : ℕ) : Type 0 where
  pub own : Outcome
  pub over : (run_alone m initial count).at ≡ Finished own
  pub counts : HasCounts n (store_alone m initial count) checks checks
