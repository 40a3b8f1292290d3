-- Laws of what hook calls report of top-level calls: they report as many as the run makes, and before each of them the
-- log knows what is known before the call.
use Rattle.std.specs.Prelude.{◌≡◌, ℕ, List, [], Option, Some, option_map}
use Rattle.wasm_syntax.specs.Index.{imported_funcs}
use Rattle.history_spec.specs.Store.{Store}
use Rattle.history_spec.specs.Instantiation.{table_length}
use Rattle.history_spec.specs.Run.{all_one, program_of, start_in_store, run_from}
use Rattle.record_replay_spec.specs.Observations.{run_observations}
use Rattle.record_replay_spec.specs.Known.{Known, opening_known}
use Rattle.record_replay_spec.specs.Hooks.{HookCall, renumber, renumbered_view}
use Rattle.record_replay_spec.specs.Order.{HookedShape, OrderState, order_start}
use Rattle.record_replay_spec.specs.Logs.{LogState, log_start}
use Rattle.rest_spec.specs.Rests.{calls_in}
use Rattle.rest_spec.specs.KnownBefore.{known_before}
use Rattle.rest_spec.specs.TopEnters.{top_enters, log_before}
use Rattle.tape_laws.specs.CallLaws.{OriginalRun, hooked_shape, calls_of_run}
use Rattle.rest_laws.specs.Laws.{IsThereBelow}

-- ---- where there is a state of the log

-- hook calls have a state of the log before a top-level call exactly where the call's number is below the number of
-- those that they report
abbrev pub LogsAreThere : Type 0
LogsAreThere =
    (shape : HookedShape) (order : OrderState) (log : LogState) (number : ℕ) (calls : List HookCall)
    → IsThereBelow (log_before shape order log number calls) number (top_enters shape order calls)

-- ---- the hook calls of a run

-- the store in which the instrumented module of a run begins
abbrev pub hooked_store : OriginalRun → Store
hooked_store run = renumbered_view (imported_funcs run.m) run.store

-- the state of the order in which the hook calls of a run begin
abbrev pub first_order : OriginalRun → OrderState
first_order run = order_start (table_length (hooked_store run).table)

-- the hook calls of a run, of any number of steps, report as many top-level calls as its history has
abbrev pub TopCallsAreReported : Type 0
TopCallsAreReported =
    (run : OriginalRun) (count : ℕ)
    → top_enters (hooked_shape run) (first_order run) (calls_of_run run count)
    ≡ calls_in
    (run_from (program_of run.m run.script) all_one (start_in_store run.m run.script run.store) count).history 0

-- what is known, with the functions of table entries as the instrumented module numbers them, if the original imports
-- `n` functions
abbrev pub renumbered_known : (n : ℕ) → Known → Known
renumbered_known n known = record known { entry = λ at. option_map (renumber n) (known.entry at) }

-- there is a state of the log, which knows just what is known, with functions renumbered
pub record IsKnownToLog (n : ℕ) (known : Known) (found : Option LogState) : Type 0 where
  pub log : LogState
  pub is_log : found ≡ Some log
  pub knows : log.known ≡ renumbered_known n known

-- for the hook calls of a run, of any number of steps: if something is known before the top-level call of a number,
-- they report this call, and there the log knows just that
abbrev pub LogsKnowWhatIsKnown : Type 0
LogsKnowWhatIsKnown =
    (run : OriginalRun) (count number : ℕ) (known : Known)
    → known_before number 0 (opening_known run.store) []
    (run_observations (program_of run.m run.script) (start_in_store run.m run.script run.store) count)
    ≡ Some known
    → IsKnownToLog (imported_funcs run.m) known
    (log_before (hooked_shape run) (first_order run) (log_start (hooked_store run)) number (calls_of_run run count))
