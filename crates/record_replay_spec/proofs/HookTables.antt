-- The size of the table that the order knows is the one that the log knows.
use Rattle.std.proofs.Common.{◌≡◌, ℕ, List, [], ◌∷◌, Option, Some, None, Bool, true, false, cond, ◌&&◌, nat_le, nat_lt, nat_eq, slice_get, refl, sym, ap, ◌∙◌, subst, arith}
use Rattle.std.proofs.lemmas.Bool.Decides.{nat_tests}
use Rattle.base.proofs.Booleans.{and_right}
use Rattle.base.proofs.Options.{map_some, and_then_some, cond_some}
use Rattle.wasm_syntax.specs.declared.values.Val.{Val}
use Rattle.wasm_syntax.specs.Alike.{same_types}
use Rattle.history_spec.specs.Code.{types_of}
use Rattle.history_spec.specs.Store.{Store, Memory, Table, bytes_at, with_bytes_at}
use Rattle.history_spec.specs.Instruction.{bits_at}
use Rattle.history_spec.specs.Instantiation.{table_length}
use Rattle.record_replay_spec.specs.Observations as observed
use Rattle.record_replay_spec.specs.Observations.{Observation, ReachesEntry, load_observations, store_observations, copy_observations, entry_observations}
use Rattle.record_replay_spec.specs.Known.{entries_after, entry_of, pages_of}
use Rattle.record_replay_spec.specs.declared.hooks.Hook.{Hook}
use Rattle.record_replay_spec.specs.declared.hooks.Hook.TheVariants.{Arg, Enter, Leave, Pre, Post, Ipre, Ipost, Load, Store as ToStore, Size, Grow, Gget, Gset, Copy, Fill}
use Rattle.record_replay_spec.specs.Hooks.{HookCall, hook_params, original, on}
use Rattle.record_replay_spec.specs.Order.{HookedShape, OrderState, OrderFrame, InFunction, InCall, when, with_frames, with_pending, value_reported, may_report, leaves, begins_call, begins_original, begins_entry, with_size_seen, begins_indirect, ends_call, ends_direct, ends_indirect, ordered_kind}
use Rattle.record_replay_spec.specs.Logs.{LogState, observed_by, call_observations, log_after, log_after_all, notices_size, log_noticing}
use Rattle.record_replay_spec.specs.HookLaws.{OrderKnowsTable}

-- the known size after a call, which only a call by the table may change
abbrev entries_by : Hook → (known : ℕ) → List Val → Store → ℕ
entries_by Ipre known args view = entries_after known (ReachesEntry (bits_at args 0) (table_length view.table))
entries_by kind known args view = known

-- a call by the table finds a size that is not smaller than the known one
abbrev MayFind : Hook → (known : ℕ) → Store → Type 0
MayFind Ipre known view = nat_le known (table_length view.table) ≡ true
MayFind kind known view = Unit {0}

-- ---- the size that the order knows

pub when_passes : (b : Bool) (state next : OrderState) → when b state ≡ Some next → (b ≡ true) × (state ≡ next)
when_passes true state next h = (refl, cc)
when_passes false state next h = cc

when_entries : (b : Bool) (state next : OrderState) → when b state ≡ Some next → next.entries ≡ state.entries
when_entries b state next h = ap (λ s. s.entries) (sym (when_passes b state next h).1)

leaves_entries : (state next : OrderState) (func : ℕ) (frames : List OrderFrame) → leaves state func frames ≡ Some next
    → next.entries ≡ state.entries
leaves_entries state next func [] h = cc
leaves_entries state next func (InFunction top ∷ frames) h = when_entries _ (with_frames state frames) next h
leaves_entries state next func (InCall direct callee entered ∷ frames) h = cc

direct_entries : (shape : HookedShape) (state next : OrderState) (func : ℕ) (frames : List OrderFrame)
    → ends_direct shape state func frames ≡ Some next → next.entries ≡ state.entries
direct_entries shape state next func [] h = cc
direct_entries shape state next func (InFunction top ∷ frames) h = cc
direct_entries shape state next func (InCall true (Some callee) entered ∷ frames) h =
    when_entries _ (with_frames state frames) next
    (cond_some (nat_eq callee func) (ends_call shape state callee entered frames) next h).1
direct_entries shape state next func (InCall true None entered ∷ frames) h = cc
direct_entries shape state next func (InCall false callee entered ∷ frames) h = cc

indirect_entries : (shape : HookedShape) (state next : OrderState) (frames : List OrderFrame)
    → ends_indirect shape state frames ≡ Some next → next.entries ≡ state.entries
indirect_entries shape state next [] h = cc
indirect_entries shape state next (InFunction top ∷ frames) h = cc
indirect_entries shape state next (InCall false (Some callee) entered ∷ frames) h =
    when_entries _ (with_frames state frames) next h
indirect_entries shape state next (InCall false None entered ∷ frames) h = cc
indirect_entries shape state next (InCall true callee entered ∷ frames) h = cc

original_entries : (shape : HookedShape) (state next : OrderState) (func : Option ℕ)
    → begins_original shape state func ≡ Some next → next.entries ≡ state.entries
original_entries shape state next None h = cc
original_entries shape state next (Some func) h = when_entries _ (begins_call state false (Some func)) next h

entry_entries : (shape : HookedShape) (state next : OrderState) (func : Option ℕ)
    → begins_entry shape state func ≡ Some next → next.entries ≡ state.entries
entry_entries shape state next None h =
    let e : begins_call state false None ≡ next = cc in ap (λ s. s.entries) (sym e)
entry_entries shape state next (Some func) h = original_entries shape state next (original shape.imports func) h

begins_entries : (shape : HookedShape) (state next : OrderState) (args : List Val) (view : Store)
    → begins_indirect shape state view (bits_at args 0) ≡ Some next
    → MayFind Ipre state.entries view × (next.entries ≡ entries_by Ipre state.entries args view)
begins_entries shape state next args view h =
    let found =
    and_then_some (when (may_report state && nat_le state.entries (table_length view.table)) state)
    (λ ready. begins_entry shape (with_size_seen ready view (bits_at args 0)) (entry_of view.table (bits_at args 0)))
    next h
    in
    let passed = when_passes _ state found.0 found.1 in (
      and_right (may_report state) (nat_le state.entries (table_length view.table)) passed.0,
      entry_entries shape (with_size_seen found.0 view (bits_at args 0)) next (entry_of view.table (bits_at args 0))
          found.2
          ∙ ap (λ s. entries_by Ipre s.entries args view) (sym passed.1),
    )

ordered_entries : (shape : HookedShape) (state next : OrderState) (kind : Hook) (args : List Val) (view : Store)
    → ordered_kind shape state kind args view ≡ Some next
    → MayFind kind state.entries view × (next.entries ≡ entries_by kind state.entries args view)
ordered_entries shape state next Arg args view h =
    let found = map_some (with_pending state) (value_reported (bits_at args 0) (bits_at args 1)) next h in
    (tt, ap (λ s. s.entries) (sym found.2))
ordered_entries shape state next Enter args view h = (tt, when_entries _ _ next h)
ordered_entries shape state next Leave args view h = (tt, leaves_entries state next _ state.frames h)
ordered_entries shape state next Pre args view h = (tt, when_entries _ _ next h)
ordered_entries shape state next Post args view h = (tt, direct_entries shape state next _ state.frames h)
ordered_entries shape state next Ipre args view h = begins_entries shape state next args view h
ordered_entries shape state next Ipost args view h = (tt, indirect_entries shape state next state.frames h)
ordered_entries shape state next Load args view h = (tt, when_entries _ state next h)
ordered_entries shape state next ToStore args view h = (tt, when_entries _ state next h)
ordered_entries shape state next Size args view h = (tt, when_entries _ state next h)
ordered_entries shape state next Grow args view h = (tt, when_entries _ state next h)
ordered_entries shape state next Gget args view h = (tt, when_entries _ state next h)
ordered_entries shape state next Gset args view h = (tt, when_entries _ state next h)
ordered_entries shape state next Copy args view h = (tt, when_entries _ state next h)
ordered_entries shape state next Fill args view h = (tt, when_entries _ state next h)

-- ---- the size that the log knows

abbrev entries_after_all : (known : ℕ) → List Observation → ℕ
entries_after_all known [] = known
entries_after_all known (o ∷ later) = entries_after_all (entries_after known o) later

log_entries : (state : LogState) (seen : List Observation)
    → (log_after_all state seen).known.entries ≡ entries_after_all state.known.entries seen
log_entries state [] = refl
log_entries state (o ∷ later) = log_entries (log_after state o) later

-- observations of an optional part leave the size, if each does
on_leaves : {X : Type 0} (known : ℕ) (o : Option X) (make : X → List Observation)
    → ((x : X) → entries_after_all known (make x) ≡ known) → entries_after_all known (on o make) ≡ known
on_leaves known None make each = refl
on_leaves known (Some x) make each = each x

observed_on_leaves : {X : Type 0} (known : ℕ) (o : Option X) (make : X → List Observation)
    → ((x : X) → entries_after_all known (make x) ≡ known) → entries_after_all known (observed.on o make) ≡ known
observed_on_leaves known None make each = refl
observed_on_leaves known (Some x) make each = each x

load_leaves : (known address width : ℕ) (memory : Memory)
    → entries_after_all known (load_observations address width memory) ≡ known
load_leaves known address width memory =
    observed_on_leaves known (bytes_at memory.bytes address width) _ (λ bytes. refl)

store_leaves : (known address count : ℕ) (bytes : List ℕ) (memory : Memory)
    → entries_after_all known (store_observations address count bytes memory) ≡ known
store_leaves known address count bytes memory =
    observed_on_leaves known (with_bytes_at memory.bytes address bytes) _ (λ all. refl)

copy_leaves : (known to source count : ℕ) (memory : Memory)
    → entries_after_all known (copy_observations to source count memory) ≡ known
copy_leaves known to source count memory =
    observed_on_leaves known (bytes_at memory.bytes source count) _ (λ bytes.
    observed_on_leaves known (with_bytes_at memory.bytes to bytes) _ (λ all. refl))

table_entries : (known : ℕ) (args : List Val) (table : Option Table) → nat_le known (table_length table) ≡ true
    → entries_after_all known (on table (entry_observations (bits_at args 0)))
    ≡ entries_after known (ReachesEntry (bits_at args 0) (table_length table))
table_entries known args None h = go (nat_lt (bits_at args 0) known) (grind (arith, nat_tests, h))
  where
    go : (b : Bool) → known ≡ 0 → known ≡ cond b known 0
    go true e = refl
    go false e = e
table_entries known args (Some table) h =
    observed_on_leaves (entries_after known (ReachesEntry (bits_at args 0) (table_length (Some table))))
    (slice_get table.entries (bits_at args 0)) _ (λ func. refl)

call_entries : (shape : HookedShape) (known : ℕ) (kind : Hook) (args : List Val) (view : Store)
    → MayFind kind known view → entries_after_all known (observed_by shape kind args view) ≡ entries_by kind known args view
call_entries shape known Load args view h = on_leaves known view.memory _ (load_leaves known _ _)
call_entries shape known ToStore args view h = on_leaves known view.memory _ (store_leaves known _ (bits_at args 2) _)
call_entries shape known Size args view h = on_leaves known view.memory _ (λ memory. refl)
call_entries shape known Grow args view h = on_leaves known view.memory _ (λ memory. refl)
call_entries shape known Copy args view h = on_leaves known view.memory _ (copy_leaves known _ _ _)
call_entries shape known Fill args view h = on_leaves known view.memory _ (store_leaves known _ (bits_at args 2) _)
call_entries shape known Ipre args view h = table_entries known args view.table h
call_entries shape known Gget args view h = on_leaves known (slice_get shape.globals (bits_at args 0)) _ (λ ty. refl)
call_entries shape known Gset args view h = on_leaves known (slice_get shape.globals (bits_at args 0)) _ (λ ty. refl)
call_entries shape known kind args view h = refl

-- ---- both sizes

noticing_entries : (call : HookCall) (state : LogState) → (log_noticing call state).known.entries ≡ state.known.entries
noticing_entries call state = go (notices_size call.kind)
  where
    go : (b : Bool) → (cond b (record state { noticed = pages_of call.view.memory }) state).known.entries
        ≡ state.known.entries
    go true = refl
    go false = refl

pub order_knows_table : OrderKnowsTable
order_knows_table shape state order next call h same =
    let in_order =
    (cond_some (same_types (hook_params call.kind) (types_of call.args))
    (ordered_kind shape order call.kind call.args call.view) next h).1
    in
    let by_order = ordered_entries shape order next call.kind call.args call.view in_order in
    let finds = subst (λ known. MayFind call.kind known call.view) same by_order.0 in
    by_order.1
    ∙ ap (λ known. entries_by call.kind known call.args call.view) same
    ∙ sym
    (noticing_entries call (log_after_all state (call_observations shape call))
    ∙ log_entries state (call_observations shape call)
    ∙ call_entries shape state.known.entries call.kind call.args call.view finds)
