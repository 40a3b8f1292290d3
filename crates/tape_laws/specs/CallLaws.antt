-- The laws of hook calls: the hook calls of a run are in order, and they report what the run observes.
use Rattle.std.specs.Prelude.{◌≡◌, ℕ, List, map, None, Ok}
use Rattle.wasm_syntax.specs.declared.modules.Module.{Module}
use Rattle.wasm_syntax.specs.Index.{imported_funcs, all_globals}
use Rattle.wasm_syntax.specs.Encoding.Forms.{IsCoreModule}
use Rattle.host_script.specs.declared.scripts.Script.{Script}
use Rattle.host_script.specs.declared.scripts.Supply.{Supply}
use Rattle.host_script.specs.Fits.{Fits}
use Rattle.host_script.specs.Supply.{supply_of}
use Rattle.history_spec.specs.Store.{Store}
use Rattle.history_spec.specs.Instantiation.{instantiate, table_length}
use Rattle.history_spec.specs.Run.{program_of, start_in_store}
use Rattle.record_replay_spec.specs.Observations.{run_observations}
use Rattle.type_safety.specs.Supplies.{IsRunnable}
use Rattle.record_replay_spec.specs.Hooks.{HookCall, renumbered_call}
use Rattle.record_replay_spec.specs.ReportedCalls.{reported_by_run}
use Rattle.record_replay_spec.specs.Order.{HookedShape, shape_of, order_start, first_disorder}
use Rattle.record_replay_spec.specs.Instrumented.{instrumented_module}
use Rattle.tape_laws.specs.ReportedObservations.{reported_observations, observations_of_calls}

-- ---- runs that hooks observe

-- a module of the form Core that can be run, a script that fits it and links with it, and the store in which the run
-- begins (Core 1.0, 4.5.4); and the digest that the instrumented module contains
pub record OriginalRun : Type 0 where
  pub m : Module
  pub digest : List ℕ
  pub script : Script
  pub supply : Supply
  pub store : Store
  pub runnable : IsRunnable m
  pub core : IsCoreModule m
  pub fits : Fits m script
  pub supplied : supply_of m script ≡ Ok supply
  pub opens : instantiate m supply ≡ Ok store

-- the shape of the instrumented module, which the order of hook calls depends on
abbrev pub hooked_shape : OriginalRun → HookedShape
hooked_shape run = shape_of (imported_funcs run.m) (instrumented_module run.m run.digest)

-- the hook calls of at most `count` steps of the run, with views as the instrumented module has them
abbrev pub calls_of_run : OriginalRun → (count : ℕ) → List HookCall
calls_of_run run count =
    map (renumbered_call (imported_funcs run.m))
    (reported_by_run run.m (program_of run.m run.script) run.store (start_in_store run.m run.script run.store) count)

-- ---- the laws

-- no hook call is out of order, in any run that ends or is cut short
abbrev pub HookCallsAreInOrder : Type 0
HookCallsAreInOrder =
    (run : OriginalRun) (count : ℕ)
    → first_disorder (hooked_shape run) (order_start (table_length run.store.table)) 0 (calls_of_run run count) ≡ None

-- the hook calls observe exactly what the run observes, as far as hooks report it
abbrev pub HookCallsObserveRuns : Type 0
HookCallsObserveRuns =
    (run : OriginalRun) (count : ℕ)
    → observations_of_calls (hooked_shape run) (calls_of_run run count)
    ≡ reported_observations (imported_funcs run.m) (all_globals run.m)
    (run_observations (program_of run.m run.script) (start_in_store run.m run.script run.store) count)
