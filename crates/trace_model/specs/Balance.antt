-- Which logs are balanced: a run can have their events in this order.
use Rattle.std.specs.Prelude.{◌≡◌, ℕ, suc, List, [], ◌∷◌, Option, Some, None, Bool, true, false, cond, not, ◌&&◌, ◌||◌, nat_eq, nat_lt, nat_le, Result, Ok, Err}
use Rattle.std.specs.Option.{option_map_or}
use Rattle.base.specs.declared.outcomes.Outcome.{Outcome}
use Rattle.base.specs.declared.outcomes.Outcome.TheVariants.{Ended, Trapped, HostTrapped}
use Rattle.trace_model.specs.declared.events.Event.{Event}
use Rattle.trace_model.specs.declared.events.Event.TheVariants.{Enter, Leave, Pre, Post, Grow, Seen, Table, Bytes, Entry, Global}
use Rattle.trace_model.specs.declared.events.Log.{Log}
use Rattle.trace_model.specs.declared.balance.Frame.{Frame}
use Rattle.trace_model.specs.declared.balance.Frame.TheVariants.{Function, Call}
use Rattle.trace_model.specs.declared.balance.Balance.{Balance}
use Rattle.trace_model.specs.declared.balance.BalanceFault.{BalanceFault}
use Rattle.trace_model.specs.declared.balance.BalanceFault.TheVariants as faults

-- the state before any event: no frame is open
abbrev pub balance_start : Balance
balance_start = record { frames = []; grew = false; called = false }

-- the innermost frame is a function
abbrev pub is_function : List Frame → Bool
is_function (Function func ∷ below) = true
is_function frames = false

-- the frames after a defined function is entered: by the host if there is no frame or an import is called;
-- within the module if the function is called and was not entered yet
abbrev pub enter_call : (n func : ℕ) → Option ℕ → Bool → List Frame → Option (List Frame)
enter_call n func None entered below = None
enter_call n func (Some callee) entered below =
    cond (nat_lt callee n || (nat_eq callee func && not entered))
    (Some (Function func ∷ Call (Some callee) true ∷ below)) None

abbrev pub enter_frames : (n func : ℕ) → List Frame → Option (List Frame)
enter_frames n func [] = Some (Function func ∷ [])
enter_frames n func (Function caller ∷ below) = None
enter_frames n func (Call callee entered ∷ below) = enter_call n func callee entered below

-- the frames after the function on top ends
abbrev pub leave_frames : (func : ℕ) → List Frame → Option (List Frame)
leave_frames func (Function top ∷ below) = cond (nat_eq top func) (Some below) None
leave_frames func frames = None

-- the frames after the call on top ends, if it is of an import or its function was entered
abbrev pub post_call : (n : ℕ) → Option ℕ → Bool → List Frame → Option (List Frame)
post_call n None entered below = None
post_call n (Some callee) entered below = cond (nat_lt callee n || entered) (Some below) None

abbrev pub post_frames : (n : ℕ) → List Frame → Option (List Frame)
post_frames n (Call callee entered ∷ below) = post_call n callee entered below
post_frames n frames = None

-- the state with other frames, after an event that is not a Pre
abbrev pub with_frames : Balance → Option (List Frame) → Option Balance
with_frames state None = None
with_frames state (Some frames) = Some (record { frames = frames; grew = state.grew; called = false })

-- the state after an event that needs a function on top
abbrev pub in_function : Balance → Bool → Option Balance
in_function state grew =
    cond (is_function state.frames) (Some (record { frames = state.frames; grew = grew; called = false })) None

-- the state after an event, if the event is allowed
abbrev pub balanced_step : (n : ℕ) → Balance → Event → Option Balance
balanced_step n state (Enter func args) =
    cond (nat_le n func) (with_frames state (enter_frames n func state.frames)) None
balanced_step n state (Leave func) = with_frames state (leave_frames func state.frames)
balanced_step n state (Pre callee) =
    cond (is_function state.frames)
    (Some (record { frames = Call callee false ∷ state.frames; grew = state.grew; called = true })) None
balanced_step n state (Post result) = with_frames state (post_frames n state.frames)
balanced_step n state (Grow pages) = in_function state true
balanced_step n state Seen = cond state.grew (in_function state true) None
balanced_step n state (Table size) = in_function state state.grew
balanced_step n state (Bytes addr bytes) = in_function state state.grew
balanced_step n state (Entry index func) = in_function state state.grew
balanced_step n state (Global global value) = in_function state state.grew

-- the frame on top is a call of an import
abbrev pub calls_import : (n : ℕ) → List Frame → Bool
calls_import n (Call (Some callee) entered ∷ below) = nat_lt callee n
calls_import n frames = false

-- no frame is open
abbrev pub is_empty_stack : List Frame → Bool
is_empty_stack [] = true
is_empty_stack (frame ∷ below) = false

-- an outcome is allowed: `Ended` if no frame is open; `Trapped` in a function or directly after a Pre;
-- `HostTrapped` in a call of an import
abbrev pub ends_so : (n : ℕ) → Balance → Outcome → Bool
ends_so n state Ended = is_empty_stack state.frames
ends_so n state Trapped = is_function state.frames || state.called
ends_so n state HostTrapped = calls_import n state.frames

-- the number of the first event that is not allowed, if the first of the list has number `at`; the number after
-- all events if only the outcome is not allowed
abbrev pub unbalanced_from : (n at : ℕ) → Balance → Outcome → List Event → Option ℕ
unbalanced_from n at state outcome [] = cond (ends_so n state outcome) None (Some at)
unbalanced_from n at state outcome (event ∷ events) =
    option_map_or (λ next. unbalanced_from n (suc at) next outcome events) (balanced_step n state event) (Some at)

-- the number of the first event of a log that is not allowed, or the number of all events if only the outcome is not
-- allowed; None if the log is balanced
abbrev pub first_unbalanced : Log → Option ℕ
first_unbalanced log = unbalanced_from log.imports 0 balance_start log.outcome log.events

abbrev pub IsBalanced : Log → Type 0
IsBalanced log = first_unbalanced log ≡ None

-- what `check_balance` returns; out of memory has no cause in the log
abbrev pub IsBalance : Option ℕ → Result (Unit {0}) BalanceFault → Type 0
IsBalance first (Ok it) = first ≡ None
IsBalance first (Err (faults.Event number)) = first ≡ Some number
IsBalance first (Err faults.Memory) = Unit {0}

-- the attempt is allowed, and `now` is the state after it; or it is not allowed
abbrev pub Takes : {A : Type 0} → Bool → A → Option A → Type 0
Takes true now after = after ≡ Some now
Takes false now after = after ≡ None
