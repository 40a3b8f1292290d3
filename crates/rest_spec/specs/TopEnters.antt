-- The top-level calls that hook calls report: a top-level call of the host enters a function where no function and no
-- call is open.
use Rattle.std.specs.Prelude.{ℕ, zero, suc, List, [], ◌∷◌, Option, Some, None, Bool, true, false, ◌&&◌, cond, option_and_then, option_map, unwrap_or}
use Rattle.record_replay_spec.specs.declared.hooks.Hook.{Hook}
use Rattle.record_replay_spec.specs.declared.hooks.Hook.TheVariants.{Enter}
use Rattle.record_replay_spec.specs.Hooks.{HookCall}
use Rattle.record_replay_spec.specs.Order.{HookedShape, OrderFrame, OrderState, ordered_step}
use Rattle.record_replay_spec.specs.Logs.{LogState, log_after_call}

-- the hook reports that a function is entered
abbrev pub is_enter : Hook → Bool
is_enter Enter = true
is_enter kind = false

-- no function and no call is open
abbrev pub none_open : List OrderFrame → Bool
none_open [] = true
none_open (frame ∷ frames) = false

-- the hook call reports a top-level call
abbrev pub enters_at_top : OrderState → HookCall → Bool
enters_at_top order call = is_enter call.kind && none_open order.frames

-- the number of top-level calls that hook calls report, up to the first one that is out of order
abbrev pub top_enters : HookedShape → OrderState → List HookCall → ℕ
top_enters shape order [] = 0
top_enters shape order (call ∷ calls) =
    let later : ℕ = unwrap_or (option_map (λ next. top_enters shape next calls) (ordered_step shape order call)) 0
    in cond (enters_at_top order call) (suc later) later

-- at a hook call: it reports the top-level call of the number that is looked for, or the search goes on, for a number
-- less by one if the call reports another top-level call
abbrev pub by_enter : {X : Type 0} → (at_top : Bool) → (number : ℕ) → (this : X) → (later : (number : ℕ) → X) → X
by_enter false number this later = later number
by_enter true zero this later = this
by_enter true (suc number) this later = later number

-- the state of the log just before the hook call that reports the top-level call of this number, if there is one
abbrev pub log_before : HookedShape → OrderState → LogState → (number : ℕ) → List HookCall → Option LogState
log_before shape order log number [] = None
log_before shape order log number (call ∷ calls) =
    by_enter (enters_at_top order call) number (Some log)
    (λ n. option_and_then (λ next. log_before shape next (log_after_call shape log call) n calls)
    (ordered_step shape order call))
