-- A recorder: its state and its steps.
use Rattle.std.specs.Prelude.{◌≡◌, ℕ, ◌+◌, List, length, Option, Some, None, Bool, true, false, Result, Ok, Err, ⊤, IsSome}
use Rattle.trace_model.specs.declared.events.Event.{Event}
use Rattle.hook_names.specs.declared.hooks.HookFault.{HookFault}
use Rattle.hook_names.specs.declared.hooks.HookFault.TheVariants.{Order, Memory}
use Rattle.record_replay_spec.specs.Hooks.{HookCall}
use Rattle.record_replay_spec.specs.Order.{HookedShape, OrderState}
use Rattle.record_replay_spec.specs.Logs.{LogState}
use Rattle.hook_order.specs.Orders.{state_of}
use Rattle.hook_order.specs.Shapes.{shape_from}
use Rattle.shadow_memory.specs.Shadow.{to_freeze}
use Rattle.recorder.specs.FrozenViews.{FrozenView, view_of}
use Rattle.recorder.specs.Known.{Show}
use Rattle.recorder.specs.Recordings.{Recording, Takes, order_after}

-- a recording; what was known when the recorder was frozen last, `None` before the first time; the number of calls
-- taken; whether memory was out
pub record Recorded (S : Type 0) : Type 0 where
  pub recording : Recording S
  pub frozen : Option FrozenView
  pub calls : ℕ
  pub broken : Bool

-- what a recording knows
abbrev pub known_now : {S : Type 0} → Recording S → FrozenView
known_now recording = view_of (to_freeze recording.memory) recording.tables recording.order.shape.imports

-- a recorder after it is frozen: what is known replaces what was frozen before, and nothing else changes
abbrev pub after_freeze : {S : Type 0} → Recorded S → Recorded S
after_freeze recorder =
    record recorder {
      recording = record recorder.recording {
        memory = record recorder.recording.memory { frozen = to_freeze recorder.recording.memory };
      };
      frozen = Some (known_now recorder.recording);
    }

-- how a recorder that is not broken answers a call: it takes the call; it reports that the call is out of order,
-- and nothing changes; or it is broken from then on; what was frozen stays in any case
abbrev pub IsAnswer : {S : Type 0} → (has_taken : S → S → List Event → Type 0) → Recorded S → HookCall
    → Result ⊤ HookFault → Recorded S → Type 0
IsAnswer has_taken before call (Ok done) after =
    Takes has_taken before.recording call after.recording × (after.calls ≡ before.calls + 1) × (after.broken ≡ false)
    × (after.frozen ≡ before.frozen)
IsAnswer has_taken before call (Err (Order number)) after =
    (order_after before.recording call ≡ None) × (number ≡ before.calls) × (after ≡ before)
IsAnswer has_taken before call (Err Memory) after =
    IsSome (order_after before.recording call) × (after.broken ≡ true) × (after.frozen ≡ before.frozen)

-- a step of a recorder: a broken one reports that memory is out, and nothing changes
abbrev pub IsRecorderStep : {S : Type 0} → (has_taken : S → S → List Event → Type 0) → Recorded S → HookCall
    → Result ⊤ HookFault → Recorded S → Type 0
IsRecorderStep has_taken before call answer after =
    (before.broken ≡ false → IsAnswer has_taken before call answer after)
    × (before.broken ≡ true → (answer ≡ Err Memory) × (after ≡ before))

-- a recorder that is not broken is at this state of the order and of the log of a module of this shape, after
-- this number of calls
pub record StandsAt {S : Type 0} (recorder : Recorded S) (shape : HookedShape) (order : OrderState) (log : LogState)
    (number : ℕ) : Type 0 where
  pub whole : recorder.broken ≡ false
  pub counted : recorder.calls ≡ number
  pub shaped : shape_from recorder.recording.order.shape ≡ shape
  pub ordered : state_of (length recorder.recording.tables.entries) recorder.recording.order ≡ order
  pub shows : Show recorder.recording.memory recorder.recording.tables log
