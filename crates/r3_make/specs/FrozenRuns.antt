-- The run of an instrumented module, recorded, with what is known before a top-level call frozen.
use Rattle.std.specs.Prelude.{◌≡◌, ℕ, ◌-◌, ◌^◌, min, [], None, Result, Ok, Err}
use Rattle.trace_model.specs.declared.events.Log.{Log}
use Rattle.wasm_syntax.specs.declared.limits.TheConstants.{MAX_TAPE_WEIGHT}
use Rattle.trace_reduce.specs.Reducer.{HasTakenFor}
use Rattle.trace_reduce.specs.declared.reducer.Reducer.{Reducer}
use Rattle.history_spec.specs.Instantiation.{table_length}
use Rattle.record_replay_spec.specs.Order.{OrderState, order_start}
use Rattle.record_replay_spec.specs.Logs.{LogState, log_start}
use Rattle.recorder.specs.Recorders.{StandsAt}
use Rattle.run_recorder.specs.Records.{RecordedRun, IsLog, RefusesRecord, calls_in}
use Rattle.base.specs.declared.outcomes.Outcome.{Outcome}
use Rattle.host_play.specs.declared.results.PlayFault.{PlayFault}
use Rattle.rest_spec.specs.TopEnters.{log_before, top_enters}
use Rattle.checkpoint.specs.Freezers.{Freezing}
use Rattle.checkpoint.specs.FrozenRuns.{IsFrozenAt}
use Rattle.r3_make.specs.declared.frozen_runs.FrozenRun.{FrozenRun}

-- the states of the order and of the log in which the hook calls of a run begin
abbrev pub order_at_start : RecordedRun → OrderState
order_at_start r = order_start (table_length r.opened.table)

abbrev pub log_at_start : RecordedRun → LogState
log_at_start r = log_start r.opened

-- a freezer before any hook call of a run
pub record IsNewFreezer (r : RecordedRun) (number : ℕ) (freezer : Freezing Reducer) : Type 0 where
  pub stands : StandsAt freezer.recorder r.shape (order_at_start r) (log_at_start r) 0
  pub fresh : HasTakenFor r.shape.imports MAX_TAPE_WEIGHT freezer.recorder.recording.sink []
  pub number_is : freezer.number ≡ number
  pub none_counted : freezer.calls ≡ 0
  pub none_frozen : freezer.recorder.frozen ≡ None

-- the run ends with the outcome, and the reducer has taken the events of its log; the top-level calls that its hook
-- calls report are counted, and what the log knows before the one of this number is frozen, if there is one
pub record HasFrozenLog (r : RecordedRun) (number : ℕ) (found : FrozenRun) : Type 0 where
  pub log : Log
  pub is_log : IsLog r found.outcome log
  pub taken : HasTakenFor r.shape.imports MAX_TAPE_WEIGHT found.reducer log.events
  pub counted : found.calls
      ≡ min (top_enters r.shape (order_at_start r) (calls_in r is_log.within.count)) (2 ^ 64 - 1)
  pub frozen : IsFrozenAt r.shape
      (log_before r.shape (order_at_start r) (log_at_start r) number (calls_in r is_log.within.count)) found.frozen

-- the result of such a run within its budget of turns; or why there is no log
abbrev pub IsFrozenRecord : RecordedRun → (number : ℕ) → Result FrozenRun PlayFault → Type 0
IsFrozenRecord r number (Ok found) = HasFrozenLog r number found
IsFrozenRecord r number (Err fault) = RefusesRecord r fault

-- what a freezer has recorded after the hook calls of a run, by the run's result
abbrev pub IsFrozenBy : RecordedRun → (number : ℕ) → Result Outcome PlayFault → Freezing Reducer → Type 0
IsFrozenBy r number (Ok outcome) after =
    (found : FrozenRun) → found.outcome ≡ outcome → found.reducer ≡ after.recorder.recording.sink
    → found.calls ≡ after.calls → found.frozen ≡ after.recorder.frozen → HasFrozenLog r number found
IsFrozenBy r number (Err fault) after = RefusesRecord r fault
