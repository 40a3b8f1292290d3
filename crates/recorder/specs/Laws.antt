-- What the runs of a recorder give.
use Rattle.std.specs.Prelude.{◌≡◌, ℕ, ◌+◌, List, [], Ok, Err, Some, None, false}
use Rattle.trace_model.specs.declared.events.Event.{Event}
use Rattle.trace_model.specs.declared.events.Log.{Log}
use Rattle.trace_model.specs.Sink.{TookAlso}
use Rattle.base.specs.declared.outcomes.Outcome.{Outcome}
use Rattle.history_spec.specs.Store.{Store}
use Rattle.history_spec.specs.Instantiation.{table_length}
use Rattle.hook_names.specs.declared.hooks.HookFault.TheVariants.{Order}
use Rattle.hook_names.specs.Steps.{IsRun}
use Rattle.record_replay_spec.specs.Hooks.{HookCall}
use Rattle.record_replay_spec.specs.Order.{HookedShape, OrderState, order_start, ordered_step, first_disorder}
use Rattle.record_replay_spec.specs.Logs.{LogState, log_start, log_of, log_after_call, call_events, events_from}
use Rattle.hook_order.specs.Shapes.{shape_from}
use Rattle.recorder.specs.FrozenViews.{ShowsFrozen}
use Rattle.recorder.specs.Recorders.{Recorded, known_now, after_freeze, IsRecorderStep, StandsAt}

-- a call is taken: it is in order, the recorder is at the next states of the order and of the log, its sink took the
-- call's events, and what was frozen stays
pub record IsNext {S : Type 0} (has_taken : S → S → List Event → Type 0) (before : Recorded S) (shape : HookedShape)
    (order : OrderState) (log : LogState) (number : ℕ) (call : HookCall) (after : Recorded S) : Type 0 where
  pub next : OrderState
  pub ordered : ordered_step shape order call ≡ Some next
  pub stands : StandsAt after shape next (log_after_call shape log call) (number + 1)
  pub reported : TookAlso has_taken before.recording.sink after.recording.sink
      (call_events shape log order.pending call)
  pub frozen : after.frozen ≡ before.frozen

-- what a recorder does that is at these states of the order and of the log: it takes each call that it accepts; if it
-- refuses a call as out of order, the call is out of order, the reported number is that of the call, and nothing has
-- changed; if the recorder is frozen, it is at the same states; what is frozen then is what the log's state knows; and
-- its parts have the number of imports of the shape and the frames of the order
pub record StepRecords {S : Type 0} (has_taken : S → S → List Event → Type 0) (before : Recorded S)
    (shape : HookedShape) (order : OrderState) (log : LogState) (number : ℕ) : Type 0 where
  pub accepted : (call : HookCall) (after : Recorded S) → IsRecorderStep has_taken before call (Ok tt) after
      → IsNext has_taken before shape order log number call after
  pub refused : (call : HookCall) (at : ℕ) (after : Recorded S)
      → IsRecorderStep has_taken before call (Err (Order at)) after
      → (ordered_step shape order call ≡ None) × (at ≡ number) × (after ≡ before)
  pub frozen : StandsAt (after_freeze before) shape order log number
  pub shows : ShowsFrozen (known_now before.recording) log.known
  pub imports : (known_now before.recording).imports ≡ shape.imports
  pub top : before.recording.order.frames ≡ order.frames

-- from each state of a recorder, a call that is accepted leads to the next states of the order and of the log, only
-- a call out of order is refused as such, and a freeze keeps both states
abbrev pub StepsAreRecorded : {S : Type 0} → (has_taken : S → S → List Event → Type 0) → Type 0
StepsAreRecorded {S} has_taken =
    (before : Recorded S) (shape : HookedShape) (order : OrderState) (log : LogState) (number : ℕ)
    → StandsAt before shape order log number → StepRecords has_taken before shape order log number

-- a run of calls from a recorder's state: if all are accepted, its sink took exactly the events of their log; if
-- one is refused as out of order, it is the first such call, and its number is reported
pub record RunsRecord {S : Type 0} (has_taken : S → S → List Event → Type 0) (before : Recorded S) (shape : HookedShape)
    (order : OrderState) (log : LogState) (number : ℕ) : Type 0 where
  pub accepted : (calls : List HookCall) (after : Recorded S)
      → IsRun (IsRecorderStep has_taken) before calls (Ok tt) after
      → (reported : List Event) × (events_from shape order log number calls ≡ Ok reported)
      × TookAlso has_taken before.recording.sink after.recording.sink reported
      × (after.broken ≡ false) × (shape_from after.recording.order.shape ≡ shape)
  pub refused : (calls : List HookCall) (at : ℕ) (after : Recorded S)
      → IsRun (IsRecorderStep has_taken) before calls (Err (Order at)) after
      → first_disorder shape order number calls ≡ Some at

-- from each state of a recorder, a run of calls that are all accepted gives its sink exactly the events of their log;
-- if a call is refused as out of order, it is the first such call
abbrev pub CallsAreRecorded : {S : Type 0} → (has_taken : S → S → List Event → Type 0) → Type 0
CallsAreRecorded {S} has_taken =
    (before : Recorded S) (shape : HookedShape) (order : OrderState) (log : LogState) (number : ℕ)
    → StandsAt before shape order log number → RunsRecord has_taken before shape order log number

-- a run of calls from a new recorder, whose sink has taken nothing: if all are accepted, its sink has taken the
-- events of the calls' log, for any outcome; otherwise there is no log, since the call of this number is the
-- first out of order
pub record RunsGiveLogs {S : Type 0} (has_taken : S → S → List Event → Type 0) (before : Recorded S)
    (shape : HookedShape) (opened : Store) : Type 0 where
  pub accepted : (calls : List HookCall) (outcome : Outcome) (after : Recorded S)
      → IsRun (IsRecorderStep has_taken) before calls (Ok tt) after
      → (log : Log) × (log_of shape opened calls outcome ≡ Ok log)
      × has_taken before.recording.sink after.recording.sink log.events
      × (log.imports ≡ after.recording.order.shape.imports) × (log.outcome ≡ outcome) × (after.broken ≡ false)
  pub refused : (calls : List HookCall) (outcome : Outcome) (at : ℕ) (after : Recorded S)
      → IsRun (IsRecorderStep has_taken) before calls (Err (Order at)) after
      → (log_of shape opened calls outcome ≡ Err at)
      × (first_disorder shape (order_start (table_length opened.table)) 0 calls ≡ Some at)

-- from a new recorder, whose sink has taken nothing, a run of calls that are all accepted gives its sink exactly the
-- events of the calls' log; if a call is refused as out of order, it is the first such call, and there is no log
abbrev pub LogsAreRecorded : {S : Type 0} → (has_taken : S → S → List Event → Type 0) → Type 0
LogsAreRecorded {S} has_taken =
    (before : Recorded S) (shape : HookedShape) (opened : Store)
    → StandsAt before shape (order_start (table_length opened.table)) (log_start opened) 0
    → has_taken before.recording.sink before.recording.sink [] → RunsGiveLogs has_taken before shape opened
