-- What the recorded run of a module in the hooked form returns, within a budget of turns.
use Rattle.std.specs.Prelude.{◌≡◌, ℕ, ◌≤◌, List, Option, Some, None, Result, Ok, Err}
use Rattle.base.specs.declared.outcomes.Outcome.{Outcome}
use Rattle.trace_model.specs.declared.events.Event.{Event}
use Rattle.trace_model.specs.declared.events.Log.{Log}
use Rattle.history_spec.specs.declared.entries.FaultKind.{FaultKind}
use Rattle.history_spec.specs.Budget.{IsOverWithin, IsSpent}
use Rattle.history_spec.specs.Instantiation.{table_length}
use Rattle.history_spec.specs.Run.{Run}
use Rattle.history_spec.specs.Step.{Finished, Faulted}
use Rattle.history_spec.specs.Store.{Store}
use Rattle.record_replay_spec.specs.Hooks.{HookCall}
use Rattle.record_replay_spec.specs.HookedRuns.{hook_calls}
use Rattle.record_replay_spec.specs.Order.{HookedShape, order_start, first_disorder}
use Rattle.record_replay_spec.specs.Logs.{log_of}
use Rattle.host_play.specs.HookedResults.{HookedRun, steps_of}
use Rattle.host_play.specs.declared.results.PlayFault.{PlayFault}
use Rattle.host_play.specs.declared.results.PlayFault.TheVariants as refusal
use Rattle.recorder.specs.Recorders.{Recorded}

-- a recorded run of a module in the hooked form: what the order of its hook calls needs of the module, and the
-- store that the run begins with
pub record RecordedRun : Type 0 where
  pub run : HookedRun
  pub shape : HookedShape
  pub opened : Store

-- the hook calls in a number of steps
abbrev pub calls_in : RecordedRun → (count : ℕ) → List HookCall
calls_in r count = hook_calls r.run.imports r.run.program count r.run.initial.next

-- the number of the first hook call out of order in a number of steps
abbrev pub disorder_in : RecordedRun → (count : ℕ) → Option ℕ
disorder_in r count = first_disorder r.shape (order_start (table_length r.opened.table)) 0 (calls_in r count)

-- the run ends with an outcome, and this is the log of the calls that it made
pub record IsLog (r : RecordedRun) (outcome : Outcome) (log : Log) : Type 0 where
  pub after : Run
  pub within : IsOverWithin (steps_of r.run) r.run.budget after
  pub ends : after.at ≡ Finished outcome
  pub logged : log_of r.shape r.opened (calls_in r within.count) outcome ≡ Ok log

-- the run ends with a fault of the script, at this turn, and no call was out of order
pub record IsFaulty (r : RecordedRun) (turn : ℕ) (kind : FaultKind) : Type 0 where
  pub after : Run
  pub within : IsOverWithin (steps_of r.run) r.run.budget after
  pub kind_is : after.at ≡ Faulted kind
  pub turn_is : after.turns ≡ turn
  pub ordered : disorder_in r within.count ≡ None

-- the turns of the run are spent, and no call was out of order
pub record IsSpentInOrder (r : RecordedRun) : Type 0 where
  pub spent : IsSpent (steps_of r.run) r.run.meter r.run.budget
  pub ordered : disorder_in r spent.count ≡ None

-- within the turns a call is out of order; the first such call has this number
pub record IsOutOfOrder (r : RecordedRun) (number : ℕ) : Type 0 where
  pub count : ℕ
  pub in_budget : (steps_of r.run count).turns ≤ r.run.budget
  pub first : disorder_in r count ≡ Some number

-- why there is no log; out of memory has no cause
abbrev pub RefusesRecord : RecordedRun → PlayFault → Type 0
RefusesRecord r (refusal.Fault turn kind) = IsFaulty r turn kind
RefusesRecord r refusal.Spent = IsSpentInOrder r
RefusesRecord r (refusal.Hook number) = IsOutOfOrder r number
RefusesRecord r refusal.Memory = Unit {0}

-- the result of a recorded run within its budget of turns: the log of the run's hook calls, or why there is no log
abbrev pub IsRecord : RecordedRun → Result Log PlayFault → Type 0
IsRecord r (Ok log) = IsLog r log.outcome log
IsRecord r (Err fault) = RefusesRecord r fault

-- a sink has taken the events of the log
pub record HasTakenLog {S : Type 0} (has_taken : S → List Event → Type 0) (r : RecordedRun) (sink : S)
    (outcome : Outcome) : Type 0 where
  pub log : Log
  pub is_log : IsLog r outcome log
  pub taken : has_taken sink log.events

-- what is known of the recorder, by the result of the run
abbrev pub IsLed : {S : Type 0} → (has_taken : S → List Event → Type 0) → RecordedRun → Result Outcome PlayFault
    → Recorded S → Type 0
IsLed has_taken r (Ok outcome) after = HasTakenLog has_taken r after.recording.sink outcome
IsLed has_taken r (Err fault) after = RefusesRecord r fault

-- the result of a run that is recorded into a sink: the sink, which has taken the events of the run's log, with the
-- outcome; or why there is no log
abbrev pub IsRecordedInto : {S : Type 0} → (has_taken : S → List Event → Type 0) → RecordedRun
    → Result (S × Outcome) PlayFault → Type 0
IsRecordedInto has_taken r (Ok recorded) = HasTakenLog has_taken r recorded.0 recorded.1
IsRecordedInto has_taken r (Err fault) = RefusesRecord r fault
