-- The values that are pending after a hook call in order are those that were reported since the last other call.
use Rattle.std.proofs.Common.{◌≡◌, ℕ, List, [], ◌∷◌, ◌++◌, Option, Some, None, Bool, true, false, not, ◌&&◌, nat_le, nat_eq, refl, sym, ap, ◌∙◌, subst}
use Rattle.std.specs.Option.{option_map_or}
use Rattle.base.proofs.Booleans.{and_left, and_right}
use Rattle.base.proofs.Options.{map_some, and_then_some, cond_some}
use Rattle.wasm_syntax.specs.declared.values.Val.{Val}
use Rattle.wasm_syntax.specs.Alike.{same_types}
use Rattle.history_spec.specs.Code.{types_of}
use Rattle.history_spec.specs.Instantiation.{table_length}
use Rattle.history_spec.specs.Instruction.{bits_at}
use Rattle.history_spec.specs.Store.{Store}
use Rattle.record_replay_spec.specs.Known.{entry_of}
use Rattle.record_replay_spec.specs.declared.hooks.Hook.{Hook}
use Rattle.record_replay_spec.specs.declared.hooks.Hook.TheVariants.{Arg, Enter, Leave, Pre, Post, Ipre, Ipost, Load, Store as ToStore, Size, Grow, Gget, Gset, Copy, Fill}
use Rattle.record_replay_spec.specs.Hooks.{HookCall, hook_params, original}
use Rattle.record_replay_spec.specs.Order.{HookedShape, OrderState, OrderFrame, InFunction, InCall, when, is_some_there, in_function, none_pending, may_report, with_frames, with_pending, value_reported, leaves, begins_call, begins_original, begins_entry, with_size_seen, ends_call, ends_direct, ends_indirect, ordered_kind, ordered_step}
use Rattle.record_replay_spec.proofs.HookTables.{when_passes}
use Rattle.tape_laws.specs.LogMeaning.{pending_after}

-- no value is pending in the state
abbrev IsEmptied : OrderState → Type 0
IsEmptied state = state.pending ≡ []

-- ---- calls that need or leave no pending value

when_emptied : (b : Bool) (state next : OrderState) → (b ≡ true → IsEmptied state) → when b state ≡ Some next
    → IsEmptied next
when_emptied b state next emptied h =
    let p = when_passes b state next h in subst IsEmptied p.1 (emptied p.0)

none_there : (pending : List Val) → not (is_some_there pending) ≡ true → pending ≡ []
none_there [] h = refl
none_there (value ∷ pending) h = cc

-- a test that asks for no pending value
reporting_emptied : (test : Bool) (state next : OrderState) → when (may_report state && test) state ≡ Some next
    → IsEmptied next
reporting_emptied test state next h =
    when_emptied (may_report state && test) state next
    (λ passes. none_there state.pending
    (and_right (in_function state.frames) (none_pending state) (and_left (may_report state) test passes))) h

leaves_emptied : (state next : OrderState) (func : ℕ) (frames : List OrderFrame) → leaves state func frames ≡ Some next
    → IsEmptied next
leaves_emptied state next func [] h = cc
leaves_emptied state next func (InFunction top ∷ frames) h =
    when_emptied _ (with_frames state frames) next (λ passes. refl) h
leaves_emptied state next func (InCall direct callee entered ∷ frames) h = cc

module _ (shape : HookedShape) (state next : OrderState) where
  direct_emptied : (func : ℕ) (frames : List OrderFrame) → ends_direct shape state func frames ≡ Some next
      → IsEmptied next
  direct_emptied func [] h = cc
  direct_emptied func (InFunction top ∷ frames) h = cc
  direct_emptied func (InCall true (Some callee) entered ∷ frames) h =
      when_emptied _ (with_frames state frames) next (λ passes. refl)
      (cond_some (nat_eq callee func) (ends_call shape state callee entered frames) next h).1
  direct_emptied func (InCall true None entered ∷ frames) h = cc
  direct_emptied func (InCall false callee entered ∷ frames) h = cc

  indirect_emptied : (frames : List OrderFrame) → ends_indirect shape state frames ≡ Some next → IsEmptied next
  indirect_emptied [] h = cc
  indirect_emptied (InFunction top ∷ frames) h = cc
  indirect_emptied (InCall false (Some callee) entered ∷ frames) h =
      when_emptied _ (with_frames state frames) next (λ passes. refl) h
  indirect_emptied (InCall false None entered ∷ frames) h = cc
  indirect_emptied (InCall true callee entered ∷ frames) h = cc

original_emptied : (shape : HookedShape) (state next : OrderState) (func : Option ℕ)
    → begins_original shape state func ≡ Some next → IsEmptied next
original_emptied shape state next None h = cc
original_emptied shape state next (Some func) h =
    when_emptied _ (begins_call state false (Some func)) next (λ passes. refl) h

entry_emptied : (shape : HookedShape) (state next : OrderState) (func : Option ℕ)
    → begins_entry shape state func ≡ Some next → IsEmptied next
entry_emptied shape state next None h =
    let e : begins_call state false None ≡ next = cc in ap (λ s. s.pending) (sym e)
entry_emptied shape state next (Some func) h = original_emptied shape state next (original shape.imports func) h

-- ---- each call

kind_pending : (shape : HookedShape) (state next : OrderState) (kind : Hook) (args : List Val) (view : Store)
    → ordered_kind shape state kind args view ≡ Some next → next.pending ≡ pending_after state.pending kind args
kind_pending shape state next Arg args view h =
    let found = map_some (with_pending state) (value_reported (bits_at args 0) (bits_at args 1)) next h in
    ap (λ s. s.pending) (sym found.2)
    ∙ ap (λ o. state.pending ++ option_map_or (λ value. value ∷ []) o []) (sym found.1)
kind_pending shape state next Enter args view h = when_emptied _ _ next (λ passes. refl) h
kind_pending shape state next Leave args view h = leaves_emptied state next _ state.frames h
kind_pending shape state next Pre args view h = when_emptied _ _ next (λ passes. refl) h
kind_pending shape state next Post args view h = direct_emptied shape state next _ state.frames h
kind_pending shape state next Ipre args view h =
    let found =
    and_then_some (when (may_report state && nat_le state.entries (table_length view.table)) state)
    (λ ready. begins_entry shape (with_size_seen ready view (bits_at args 0)) (entry_of view.table (bits_at args 0)))
    next h
    in
    entry_emptied shape (with_size_seen found.0 view (bits_at args 0)) next (entry_of view.table (bits_at args 0)) found.2
kind_pending shape state next Ipost args view h = indirect_emptied shape state next state.frames h
kind_pending shape state next Load args view h = reporting_emptied _ state next h
kind_pending shape state next ToStore args view h = reporting_emptied _ state next h
kind_pending shape state next Size args view h = reporting_emptied _ state next h
kind_pending shape state next Grow args view h = reporting_emptied _ state next h
kind_pending shape state next Gget args view h = reporting_emptied _ state next h
kind_pending shape state next Gset args view h = reporting_emptied _ state next h
kind_pending shape state next Copy args view h = reporting_emptied _ state next h
kind_pending shape state next Fill args view h = reporting_emptied _ state next h

pub step_pending : (shape : HookedShape) (state next : OrderState) (call : HookCall)
    → ordered_step shape state call ≡ Some next → next.pending ≡ pending_after state.pending call.kind call.args
step_pending shape state next call h =
    kind_pending shape state next call.kind call.args call.view
    (cond_some (same_types (hook_params call.kind) (types_of call.args))
    (ordered_kind shape state call.kind call.args call.view) next h).1
