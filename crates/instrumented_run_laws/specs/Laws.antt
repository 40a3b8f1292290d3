-- The law of instrumented runs: the run of an instrumented module follows the original's, and reports to hooks what
-- the original does.
use Rattle.std.specs.Prelude.{◌≡◌, ℕ, List, None, Ok}
use Rattle.wasm_syntax.specs.declared.modules.Module.{Module}
use Rattle.wasm_syntax.specs.Index.{imported_funcs}
use Rattle.base.specs.declared.outcomes.Outcome.{Outcome}
use Rattle.history_spec.specs.Budget.{RunResult, Over, Spent, IsResult}
use Rattle.history_spec.specs.Instantiation.{table_length}
use Rattle.history_spec.specs.Run.{Run, all_one, program_of, start_in_store, run_start, run_from}
use Rattle.history_spec.specs.Step.{Program, StepResult, Finished}
use Rattle.record_replay_spec.specs.Hooks.{HookCall, renumbered_view}
use Rattle.record_replay_spec.specs.HookedRuns.{hook_calls}
use Rattle.record_replay_spec.specs.Instrumented.{instrumented_module, instrumented_meter}
use Rattle.record_replay_spec.specs.Order.{order_start, first_disorder}
use Rattle.tape_laws.specs.CallLaws.{OriginalRun, hooked_shape, calls_of_run}
use Rattle.instrumented_module_laws.specs.Links.{script_with_hooks}

-- ---- the two runs

-- the original's program
abbrev pub original_program : OriginalRun → Program
original_program run = program_of run.m run.script

-- the start of the original's run
abbrev pub original_start : OriginalRun → StepResult
original_start run = start_in_store run.m run.script run.store

-- the original's run after a number of steps, each of which is a turn
abbrev pub original_run : OriginalRun → ℕ → Run
original_run run = run_from (original_program run) all_one (original_start run)

-- the instrumented module
abbrev pub instrumented_of : OriginalRun → Module
instrumented_of run = instrumented_module run.m run.digest

-- the instrumented module's program under the script with its functions renumbered, by which hooks do nothing
abbrev pub instrumented_program : OriginalRun → Program
instrumented_program run = program_of (instrumented_of run) (script_with_hooks run.m run.script)

-- the start of the instrumented module's run, in the store with its functions renumbered
abbrev pub instrumented_start : OriginalRun → StepResult
instrumented_start run =
    start_in_store (instrumented_of run) (script_with_hooks run.m run.script)
    (renumbered_view (imported_funcs run.m) run.store)

-- the instrumented module's run after a number of steps, under the meter by which inserted instructions take no turn
abbrev pub instrumented_run : OriginalRun → ℕ → Run
instrumented_run run = run_from (instrumented_program run) (instrumented_meter run.m) (instrumented_start run)

-- the hook calls that a number of steps of the instrumented run make
abbrev pub instrumented_calls : OriginalRun → (steps : ℕ) → List HookCall
instrumented_calls run steps =
    hook_calls (imported_funcs run.m) (instrumented_program run) steps (instrumented_start run).next

-- ---- the law

-- two runs within one budget end alike: by the same outcome or fault, in the same number of turns; or both spend their
-- turns
abbrev pub AreAlike : RunResult → RunResult → Type 0
AreAlike (Over run) (Over other) = (other.at ≡ run.at) × (other.turns ≡ run.turns)
AreAlike Spent Spent = Unit {0}
AreAlike result other = ⊥

-- after some steps the instrumented run has made the hook calls of the first `count` steps of the original's run, and
-- has the original's outcome if that has one
pub record IsReported (run : OriginalRun) (count : ℕ) : Type 0 where
  pub steps : ℕ
  pub calls : instrumented_calls run steps ≡ calls_of_run run count
  pub outcome : (outcome : Outcome) → (original_run run count).at ≡ Finished outcome
      → (instrumented_run run steps).at ≡ Finished outcome

-- The instrumented run follows the original's. It begins with the instrumented module linked with the script. Within
-- each budget each run ends as the other does. The hook calls of any number of steps of the original's run are those
-- of some number of steps of the instrumented run; if the original's run has an outcome, they are all the hook calls
-- of the instrumented run. And no hook call is out of order, before an outcome, before a fault or before the turns are
-- spent.
pub record IsFollowed (run : OriginalRun) : Type 0 where
  pub begins : run_start (instrumented_of run) (script_with_hooks run.m run.script) ≡ Ok (instrumented_start run)
  pub results : (budget : ℕ) (result : RunResult) → IsResult (original_run run) all_one budget result
      → (other : RunResult) × IsResult (instrumented_run run) (instrumented_meter run.m) budget other
      × AreAlike result other
  pub instrumented_results : (budget : ℕ) (other : RunResult)
      → IsResult (instrumented_run run) (instrumented_meter run.m) budget other
      → (result : RunResult) × IsResult (original_run run) all_one budget result × AreAlike result other
  pub reported : (count : ℕ) → IsReported run count
  pub reported_all : (count steps : ℕ) (outcome found : Outcome) → (original_run run count).at ≡ Finished outcome
      → (instrumented_run run steps).at ≡ Finished found → instrumented_calls run steps ≡ calls_of_run run count
  pub ordered : (steps : ℕ)
      → first_disorder (hooked_shape run) (order_start (table_length run.store.table)) 0 (instrumented_calls run steps)
      ≡ None

-- every instrumented run follows the original's
abbrev pub InstrumentedRunsFollow : Type 0
InstrumentedRunsFollow = (run : OriginalRun) → IsFollowed run
