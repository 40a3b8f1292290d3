-- The events of hook calls in order have a spelling.
use Rattle.std.proofs.Common.{◌≡◌, ℕ, ◌+◌, ◌<◌, ◌^◌, ◌&&◌, List, [], ◌∷◌, ◌++◌, length, Option, Some, None, Bool, true, false, cond, nat_eq, nat_le, slice_get, Result, Ok, Err, IfSome, refl, sym, ap, ◌∙◌, subst, arith}
use Rattle.std.specs.List.{AllByRecursion}
use Rattle.std.proofs.lemmas.List.{length-map}
use Rattle.base.proofs.Booleans.{and_right}
use Rattle.base.proofs.Lists.{all_at, joined_all}
use Rattle.base.proofs.Options.{and_then_some, cond_some, map_some}
use Rattle.wasm_syntax.specs.declared.values.Val.{Val}
use Rattle.wasm_syntax.specs.declared.values.ValType.TheVariants.{I64}
use Rattle.wasm_syntax.specs.declared.signatures.FuncType.{FuncType}
use Rattle.wasm_syntax.specs.declared.signatures.GlobalType.{GlobalType}
use Rattle.wasm_syntax.specs.declared.modules.Module.{Module}
use Rattle.wasm_syntax.specs.Alike.{same_types}
use Rattle.wasm_syntax.specs.Encoding.Encodable.{FitsU32}
use Rattle.wasm_syntax.specs.Index.{all_memories, all_tables, func_indices, func_type, type_at}
use Rattle.wasm_syntax.specs.Validity.{IsValid}
use Rattle.wasm_syntax.proofs.ValTypes.{types_same}
use Rattle.trace_model.specs.declared.events.Event.{Event}
use Rattle.trace_model.specs.declared.events.Event.TheVariants as events
use Rattle.trace_bytes.specs.declared.tags.TheConstants.{VERSION_2}
use Rattle.trace_bytes.specs.Spelled.{FitEvents, FitsEvent, FitsVal}
use Rattle.history_spec.specs.Store.{Memory, Store}
use Rattle.history_spec.specs.Code.{types_of}
use Rattle.history_spec.specs.Instruction.{bits_at}
use Rattle.history_spec.specs.Instantiation.{table_length}
use Rattle.record_replay_spec.specs.Observations.{load_observations, copy_observations, size_observations, entry_observations}
use Rattle.record_replay_spec.specs.Known.{entry_of, pages_of}
use Rattle.type_safety.specs.Stores.{IsStore, MayBeMemory, MayBeTable, func_count}
use Rattle.wasm_flat.specs.Sizes.{IsShort, list_limit}
use Rattle.tape_laws.proofs.TrailRuns.{globals_are_numbers}
use Rattle.record_replay_spec.specs.declared.hooks.Hook.{Hook}
use Rattle.record_replay_spec.specs.declared.hooks.Hook.TheVariants.{Arg, Enter, Leave, Pre, Post, Ipre, Ipost, Load, Store as ToStore, Size, Grow, Gget, Gset, Copy, Fill}
use Rattle.record_replay_spec.specs.Hooks.{HookCall, hook_params, original, renumber}
use Rattle.record_replay_spec.specs.Order.{HookedShape, OrderState, OrderFrame, InFunction, InCall, shape_of, bits_fit, begins_call, begins_entry, begins_original, ends_call, ends_direct, ends_indirect, enters, fits_global, is_defined, leaves, may_enter, may_report, ordered_kind, ordered_step, pending_are, stays, value_reported, when, with_frames, with_pending, with_size_seen}
use Rattle.record_replay_spec.specs.Logs.{LogState, after_events, all_observed_events, call_events, call_observations, events_from, events_or, grown_events, log_after_call, notices_size, observed_by, own_events, value_of_global}
use Rattle.record_replay_spec.proofs.HookTables.{when_passes}
use Rattle.replay_theorem.proofs.TypedCalls.{AreTypedCalls, IsTypedCall}
use Rattle.replay_theorem.proofs.FittingObservations.{AreSmall, number_fits, reported_fits, first_arg, original_fits, unless_fits, observed_fit, shown_small, memory_small, memory_reads, memory_writes, memory_copies, table_reads, table_entry}

-- ---- the order

abbrev PendingFit : OrderState → Type 0
PendingFit state = AllByRecursion FitsVal state.pending

kept : (b : Bool) (state next : OrderState) → PendingFit state → when b state ≡ Some next → PendingFit next
kept b state next fit is = subst PendingFit (when_passes b state next is).1 fit

module _ (shape : HookedShape) where
  left_fit : (state next : OrderState) (func : ℕ) (frames : List OrderFrame) → leaves state func frames ≡ Some next
      → PendingFit next
  left_fit state next func [] is = absurd (cc is)
  left_fit state next func (InFunction top ∷ frames) is = kept _ (with_frames state frames) next tt is
  left_fit state next func (InCall direct callee entered ∷ frames) is = absurd (cc is)

  ended_fit : (state next : OrderState) (callee : ℕ) (entered : Bool) (frames : List OrderFrame)
      → ends_call shape state callee entered frames ≡ Some next → PendingFit next
  ended_fit state next callee entered frames is = kept _ (with_frames state frames) next tt is

  direct_fit : (state next : OrderState) (func : ℕ) (frames : List OrderFrame)
      → ends_direct shape state func frames ≡ Some next → PendingFit next
  direct_fit state next func [] is = absurd (cc is)
  direct_fit state next func (InFunction top ∷ frames) is = absurd (cc is)
  direct_fit state next func (InCall false callee entered ∷ frames) is = absurd (cc is)
  direct_fit state next func (InCall true None entered ∷ frames) is = absurd (cc is)
  direct_fit state next func (InCall true (Some callee) entered ∷ frames) is =
      ended_fit state next callee entered frames
      (cond_some (nat_eq callee func) (ends_call shape state callee entered frames) next is).1

  indirect_fit : (state next : OrderState) (frames : List OrderFrame) → ends_indirect shape state frames ≡ Some next
      → PendingFit next
  indirect_fit state next [] is = absurd (cc is)
  indirect_fit state next (InFunction top ∷ frames) is = absurd (cc is)
  indirect_fit state next (InCall true callee entered ∷ frames) is = absurd (cc is)
  indirect_fit state next (InCall false None entered ∷ frames) is = absurd (cc is)
  indirect_fit state next (InCall false (Some callee) entered ∷ frames) is =
      ended_fit state next callee entered frames is

  begun_fit : (state next : OrderState) (o : Option ℕ) → begins_original shape state o ≡ Some next → PendingFit next
  begun_fit state next None is = absurd (cc is)
  begun_fit state next (Some func) is = kept _ (begins_call state false (Some func)) next tt is

  entry_fit : (state next : OrderState) (o : Option ℕ) → begins_entry shape state o ≡ Some next → PendingFit next
  entry_fit state next None is =
      let same : begins_call state false None ≡ next = cc is in subst PendingFit same tt
  entry_fit state next (Some func) is = begun_fit state next (original shape.imports func) is

  -- the pending values after a call fit
  next_fit : (state next : OrderState) (kind : Hook) (args : List Val) (view : Store) → PendingFit state
      → ordered_kind shape state kind args view ≡ Some next → PendingFit next
  next_fit state next Arg args view fit is =
      let reported = map_some (with_pending state) (value_reported (bits_at args 0) (bits_at args 1)) next is in
      subst PendingFit reported.2
      (joined_all FitsVal state.pending (reported.0 ∷ []) fit (reported_fits (bits_at args 0) (bits_at args 1) reported.0 reported.1, tt))
  next_fit state next Enter args view fit is = kept _ (with_frames state _) next tt is
  next_fit state next Leave args view fit is = left_fit state next (bits_at args 0) state.frames is
  next_fit state next Pre args view fit is = kept _ (begins_call state true (Some (bits_at args 0))) next tt is
  next_fit state next Post args view fit is = direct_fit state next (bits_at args 0) state.frames is
  next_fit state next Ipre args view fit is =
      let ready = and_then_some (when (may_report state && nat_le state.entries (table_length view.table)) state)
      (λ ready. begins_entry shape (with_size_seen ready view (bits_at args 0)) (entry_of view.table (bits_at args 0)))
      next is in
      entry_fit (with_size_seen ready.0 view (bits_at args 0)) next (entry_of view.table (bits_at args 0)) ready.2
  next_fit state next Ipost args view fit is = indirect_fit state next state.frames is
  next_fit state next Load args view fit is = kept _ state next fit is
  next_fit state next ToStore args view fit is = kept _ state next fit is
  next_fit state next Size args view fit is = kept _ state next fit is
  next_fit state next Grow args view fit is = kept _ state next fit is
  next_fit state next Gget args view fit is = kept _ state next fit is
  next_fit state next Gset args view fit is = kept _ state next fit is
  next_fit state next Copy args view fit is = kept _ state next fit is
  next_fit state next Fill args view fit is = kept _ state next fit is

  -- the number of values for a function that is entered is the number of its parameters
  reported_typed : (state next : OrderState) (func : ℕ) → enters shape state func ≡ Some next
      → pending_are state (λ ty. ty.params) (shape.type_of func) ≡ true
  reported_typed state next func is =
      by (is_defined shape func) (pending_are state (λ ty. ty.params) (shape.type_of func))
      (may_enter shape func state.frames) (when_passes _ (with_frames state _) next is).0
    where
      by : (a b c : Bool) → (a && b && c) ≡ true → b ≡ true
      by true true c e = refl
      by true false c e = cc e
      by false true c e = refl
      by false false c e = cc e

  as_many : (state : OrderState) (ty : Option FuncType) → pending_are state (λ ty. ty.params) ty ≡ true
      → (found : FuncType) × (ty ≡ Some found) × (length state.pending ≡ length found.params)
  as_many state None are = absurd (cc are)
  as_many state (Some ty) are =
      let same : ty.params ≡ types_of state.pending = types_same ty.params (types_of state.pending) are in
      (ty, refl, sym (ap length same ∙ length-map state.pending (λ value. value.ty)))

-- ---- the events of calls

module _ (m : Module) (valid : IsValid m) (short : IsShort m) (n : ℕ) where
  abbrev shape : HookedShape
  shape = shape_of n m

  few_params : (func : ℕ) (ty : FuncType) → func_type m func ≡ Some ty → length ty.params < 2 ^ 32
  few_params func ty is =
      let at = and_then_some (slice_get (func_indices m) func) (type_at m) ty is in
      let few = all_at (λ (ty : FuncType). length ty.params < list_limit) m.types at.0 ty short.params at.2 in
      wider (length ty.params) few
    where
      wider : (count : ℕ) → count < 2 ^ 31 → count < 2 ^ 32
      wider count few = omega (arith, few)

  global_fits : (state next : OrderState) (args : List Val) (ty : GlobalType)
      → stays state (fits_global (slice_get shape.globals (bits_at args 0)) (bits_at args 1)) ≡ Some next
      → slice_get shape.globals (bits_at args 0) ≡ Some ty → FitsVal (value_of_global ty (bits_at args 1))
  global_fits state next args ty is there =
      let test = and_right (may_report state) (fits_global (slice_get shape.globals (bits_at args 0)) (bits_at args 1))
      (when_passes _ state next is).0 in
      let found : fits_global (Some ty) (bits_at args 1) ≡ true =
      sym (ap (λ o. fits_global o (bits_at args 1)) there) ∙ test in
      number_fits ty.ty (bits_at args 1) (globals_are_numbers m valid.outside (bits_at args 0) ty there)
      (and_right ty.mutable (bits_fit ty.ty (bits_at args 1)) found)

  abbrev AreTyped : Hook → List Val → Type 0
  AreTyped kind args = same_types (hook_params kind) (types_of args) ≡ true

  observations_small : (state next : OrderState) (kind : Hook) (args : List Val) (view : Store)
      → IsTypedCall m (record { kind = kind; args = args; view = view }) → AreTyped kind args
      → ordered_kind shape state kind args view ≡ Some next → AreSmall (observed_by shape kind args view)
  observations_small state next Arg args view typed same is = tt
  observations_small state next Enter args view typed same is = tt
  observations_small state next Leave args view typed same is = tt
  observations_small state next Pre args view typed same is = tt
  observations_small state next Post args view typed same is = tt
  observations_small state next Ipre args view typed same is =
      shown_small view.table (entry_observations (bits_at args 0)) (λ table e.
      table_reads (func_count m) (all_tables m) table (bits_at args 0) short.funcs
      (subst (MayBeTable (func_count m) (all_tables m)) e typed.view.table))
  observations_small state next Ipost args view typed same is = tt
  observations_small state next Load args view typed same is =
      shown_small view.memory (load_observations (bits_at args 0 + bits_at args 1) (bits_at args 2)) (λ memory e.
      memory_reads (all_memories m) memory (bits_at args 0 + bits_at args 1) (bits_at args 2)
      (subst (MayBeMemory (all_memories m)) e typed.view.memory))
  observations_small state next ToStore args view typed same is =
      shown_small view.memory _ (λ memory e. memory_writes memory (bits_at args 0 + bits_at args 1) (bits_at args 2) _)
  observations_small state next Size args view typed same is =
      shown_small view.memory size_observations (λ memory e. (tt, tt))
  observations_small state next Grow args view typed same is = shown_small view.memory _ (λ memory e. (tt, tt))
  observations_small state next Gget args view typed same is =
      shown_small (slice_get shape.globals (bits_at args 0)) _ (λ ty there. (
        (
          first_arg (func_count m) typed.types (I64 ∷ []) args typed.values same,
          global_fits state next args ty is there,
        ),
        tt,
      ))
  observations_small state next Gset args view typed same is =
      shown_small (slice_get shape.globals (bits_at args 0)) _ (λ ty there. (tt, tt))
  observations_small state next Copy args view typed same is =
      shown_small view.memory (copy_observations (bits_at args 0) (bits_at args 1) (bits_at args 2)) (λ memory e.
      memory_copies (all_memories m) memory (bits_at args 0) (bits_at args 1) (bits_at args 2)
      (subst (MayBeMemory (all_memories m)) e typed.view.memory))
  observations_small state next Fill args view typed same is =
      shown_small view.memory _ (λ memory e. memory_writes memory (bits_at args 0) (bits_at args 2) _)

  first_pending : (pending : List Val) → AllByRecursion FitsVal pending → IfSome (slice_get pending 0) FitsVal
  first_pending [] fit = tt
  first_pending (v ∷ pending) fit = fit.0

  own_fit : (state next : OrderState) (kind : Hook) (args : List Val) (view : Store) → PendingFit state
      → IsTypedCall m (record { kind = kind; args = args; view = view }) → AreTyped kind args
      → ordered_kind shape state kind args view ≡ Some next
      → FitEvents VERSION_2 (own_events n state.pending kind args view)
  own_fit state next Arg args view fit typed same is = tt
  own_fit state next Enter args view fit typed same is =
      let found = as_many shape state (shape.type_of (bits_at args 0))
      (reported_typed shape state next (bits_at args 0) is) in
      let few = few_params (renumber n (bits_at args 0)) found.0 found.1 in
      let many = found.2 in
      ((first_arg (func_count m) typed.types [] args typed.values same, (omega (arith, few, many), fit)), tt)
  own_fit state next Leave args view fit typed same is =
      (first_arg (func_count m) typed.types [] args typed.values same, tt)
  own_fit state next Pre args view fit typed same is =
      (first_arg (func_count m) typed.types [] args typed.values same, tt)
  own_fit state next Post args view fit typed same is = (first_pending state.pending fit, tt)
  own_fit state next Ipre args view fit typed same is = (
    original_fits n (entry_of view.table (bits_at args 0))
        (table_entry (func_count m) (all_tables m) view.table (bits_at args 0) short.funcs typed.view.table),
    tt,
  )
  own_fit state next Ipost args view fit typed same is = (first_pending state.pending fit, tt)
  own_fit state next Load args view fit typed same is = tt
  own_fit state next ToStore args view fit typed same is = tt
  own_fit state next Size args view fit typed same is = tt
  own_fit state next Grow args view fit typed same is = tt
  own_fit state next Gget args view fit typed same is = tt
  own_fit state next Gset args view fit typed same is = tt
  own_fit state next Copy args view fit typed same is = tt
  own_fit state next Fill args view fit typed same is = tt

  few_pages : (memory : Option Memory) → MayBeMemory (all_memories m) memory → FitsU32 (pages_of memory)
  few_pages None is = omega arith
  few_pages (Some memory) is = let few = (memory_small (all_memories m) memory is).1 in omega (arith, few)

  grown_fit : (b : Bool) (noticed : ℕ) (view : Store) → IsStore m view
      → FitEvents VERSION_2 (cond b (grown_events noticed view) [])
  grown_fit true noticed view is =
      unless_fits (nat_eq (pages_of view.memory) noticed) (events.Grow (pages_of view.memory))
      (few_pages view.memory is.memory)
  grown_fit false noticed view is = tt

  call_fit : (state next : OrderState) (log : LogState) (call : HookCall) → PendingFit state → IsTypedCall m call
      → AreTyped call.kind call.args → ordered_kind shape state call.kind call.args call.view ≡ Some next
      → FitEvents VERSION_2 (call_events shape log state.pending call)
  call_fit state next log call fit typed same is =
      joined_all (FitsEvent VERSION_2) (all_observed_events n log (call_observations shape call)) _
      (observed_fit n log (call_observations shape call)
      (observations_small state next call.kind call.args call.view typed same is))
      (joined_all (FitsEvent VERSION_2) (own_events n state.pending call.kind call.args call.view) _
      (own_fit state next call.kind call.args call.view fit typed same is)
      (grown_fit (notices_size call.kind) log.noticed call.view typed.view))

  -- the events of hook calls in order have a spelling
  pub events_fit : (state : OrderState) (log : LogState) (at : ℕ) (calls : List HookCall) (reported : List Event)
      → PendingFit state → AreTypedCalls m calls → events_from shape state log at calls ≡ Ok reported
      → FitEvents VERSION_2 reported
  events_fit state log at [] reported fit typed is =
      let same : [] ≡ reported = cc is in subst (FitEvents VERSION_2) same tt
  events_fit state log at (call ∷ calls) reported fit typed is =
      by (ordered_step shape state call) refl
      (λ next reported fit. events_fit next (log_after_call shape log call) (at + 1) calls reported fit typed.1) is
    where
      joined : (next : OrderState) (later : Result (List Event) ℕ) → ordered_step shape state call ≡ Some next
          → ((reported : List Event) → later ≡ Ok reported → FitEvents VERSION_2 reported)
          → after_events (call_events shape log state.pending call) later ≡ Ok reported → FitEvents VERSION_2 reported
      joined next (Err number) step rest e = absurd (cc e)
      joined next (Ok later) step rest e =
          let parts = cond_some (same_types (hook_params call.kind) (types_of call.args))
          (ordered_kind shape state call.kind call.args call.view) next step in
          let same : call_events shape log state.pending call ++ later ≡ reported = cc e in
          subst (FitEvents VERSION_2) same
          (joined_all (FitsEvent VERSION_2) (call_events shape log state.pending call) later
          (call_fit state next log call fit typed.0 parts.0 parts.1) (rest later refl))

      by : (o : Option OrderState) → ordered_step shape state call ≡ o
          → ((next : OrderState) (reported : List Event) → PendingFit next
          → events_from shape next (log_after_call shape log call) (at + 1) calls ≡ Ok reported → FitEvents VERSION_2 reported)
          → events_or at o (λ next. after_events (call_events shape log state.pending call)
          (events_from shape next (log_after_call shape log call) (at + 1) calls)) ≡ Ok reported → FitEvents VERSION_2 reported
      by None step rest e = absurd (cc e)
      by (Some next) step rest e =
          let parts = cond_some (same_types (hook_params call.kind) (types_of call.args))
          (ordered_kind shape state call.kind call.args call.view) next step in
          joined next (events_from shape next (log_after_call shape log call) (at + 1) calls) step
          (λ reported f. rest next reported
          (next_fit shape state next call.kind call.args call.view fit parts.1) f) e
