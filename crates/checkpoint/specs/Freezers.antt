-- A freezer: its state and its steps.
use Rattle.std.specs.Prelude.{◌≡◌, ℕ, ◌+◌, ◌-◌, ◌^◌, cond, min, nat_eq, Bool, true, ◌&&◌, List, Result, Ok, Err, ⊤, ◌⊎◌}
use Rattle.trace_model.specs.declared.events.Event.{Event}
use Rattle.hook_names.specs.declared.hooks.HookFault.{HookFault}
use Rattle.hook_names.specs.declared.hooks.HookFault.TheVariants.{Memory}
use Rattle.record_replay_spec.specs.Hooks.{HookCall}
use Rattle.recorder.specs.Recorders.{Recorded, IsRecorderStep, after_freeze}
use Rattle.rest_spec.specs.TopEnters.{is_enter, none_open}

-- a recorder, the number of the top-level call before which it is frozen, and the number of top-level calls that it has
-- taken
pub record Freezing (S : Type 0) : Type 0 where
  pub recorder : Recorded S
  pub number : ℕ
  pub calls : ℕ

-- the hook call reports a top-level call to a recorder
abbrev pub enters_top : {S : Type 0} → Recorded S → HookCall → Bool
enters_top recorder call = is_enter call.kind && none_open recorder.recording.order.frames

-- the hook call reports the top-level call that is looked for
abbrev pub enters_looked_for : {S : Type 0} → Freezing S → HookCall → Bool
enters_looked_for before call = enters_top before.recorder call && nat_eq before.calls before.number

-- the recorder that takes a hook call: frozen, if the call reports the top-level call that is looked for
abbrev pub recorder_at : {S : Type 0} → Freezing S → HookCall → Recorded S
recorder_at before call = cond (enters_looked_for before call) (after_freeze before.recorder) before.recorder

-- the number of top-level calls after one more; it stays at the greatest number of 64 bits
abbrev pub one_more : ℕ → ℕ
one_more calls = min (calls + 1) (2 ^ 64 - 1)

-- the number of top-level calls taken, after a hook call with this answer
abbrev pub calls_after : {S : Type 0} → Freezing S → HookCall → Result ⊤ HookFault → ℕ
calls_after before call (Ok done) = cond (enters_top before.recorder call) (one_more before.calls) before.calls
calls_after before call (Err fault) = before.calls

-- a hook call is passed on to the recorder, which is frozen first if the call reports the top-level call that is looked
-- for
pub record IsPassed {S : Type 0} (has_taken : S → S → List Event → Type 0) (before : Freezing S) (call : HookCall)
    (answer : Result ⊤ HookFault) (after : Freezing S) : Type 0 where
  pub step : IsRecorderStep has_taken (recorder_at before call) call answer after.recorder
  pub number : after.number ≡ before.number
  pub calls : after.calls ≡ calls_after before call answer

-- a step of a freezer: the hook call is passed on; or it reports the top-level call that is looked for, there was no
-- memory to freeze the recorder, and nothing changes
abbrev pub IsFreezerStep : {S : Type 0} → (has_taken : S → S → List Event → Type 0) → Freezing S → HookCall
    → Result ⊤ HookFault → Freezing S → Type 0
IsFreezerStep has_taken before call answer after =
    IsPassed has_taken before call answer after
    ⊎ ((answer ≡ Err Memory) × (after ≡ before) × (enters_looked_for before call ≡ true))
