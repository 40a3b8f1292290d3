-- The steps of a recorder, before its calls are counted.
use Rattle.std.specs.Prelude.{◌≡◌, List, length, Option, Some, None, Bool, true, false}
use Rattle.trace_model.specs.declared.events.Event.{Event}
use Rattle.trace_model.specs.Sink.{TookAlso}
use Rattle.record_replay_spec.specs.Hooks.{HookCall}
use Rattle.record_replay_spec.specs.Order.{OrderState}
use Rattle.record_replay_spec.specs.Logs.{LogState, call_events, log_after_call}
use Rattle.hook_order.specs.Orders.{OrderParts, state_of, step_from}
use Rattle.hook_order.specs.Shapes.{shape_from}
use Rattle.shadow_memory.specs.Shadow.{Shadow}
use Rattle.shadow_tables.specs.Tables.{Tables}
use Rattle.recorder.specs.Known.{Show}
use Rattle.recorder.specs.declared.recording.Recording as recording

-- the state of the order of calls, what is known of the store, and the sink of the events
pub record Recording (S : Type 0) : Type 0 where
  pub order : OrderParts
  pub memory : Shadow
  pub tables : Tables
  pub sink : S

-- the recording that has these fields
abbrev pub recording_of : {S : Type 0} → recording.Recording S → Recording S
recording_of fields =
    record { order = fields.order; memory = fields.memory; tables = fields.tables; sink = fields.sink }

-- a call leads from any state that a recording shows to the state that it shows after, and its sink took the
-- call's events
abbrev pub Logs : {S : Type 0} → (has_taken : S → S → List Event → Type 0) → Recording S → HookCall → Recording S
    → Type 0
Logs has_taken before call after =
    (state : LogState) → Show before.memory before.tables state
    → Show after.memory after.tables (log_after_call (shape_from before.order.shape) state call)
    × TookAlso has_taken before.sink after.sink
    (call_events (shape_from before.order.shape) state before.order.pending call)

-- the order after a call, or `None` if the call is out of order
abbrev pub order_after : {S : Type 0} → Recording S → HookCall → Option OrderState
order_after recording call = step_from (length recording.tables.entries) recording.order call

-- a call that is in order is taken
pub record Takes {S : Type 0} (has_taken : S → S → List Event → Type 0) (before : Recording S) (call : HookCall)
    (after : Recording S) : Type 0 where
  pub shape : after.order.shape ≡ before.order.shape
  pub ordered : order_after before call ≡ Some (state_of (length after.tables.entries) after.order)
  pub logged : Logs has_taken before call after

-- a call is taken, or it is out of order and nothing changes
abbrev pub IsTaken : {S : Type 0} → (has_taken : S → S → List Event → Type 0) → Recording S → HookCall → (may : Bool)
    → Recording S → Type 0
IsTaken has_taken before call true after = Takes has_taken before call after
IsTaken has_taken before call false after = (order_after before call ≡ None) × (after ≡ before)
