-- The log of hook calls: the events that record what the host did, as far as the module observed it.
use Rattle.std.specs.Prelude.{ℕ, ◌+◌, ◌*◌, ◌%◌, List, [], ◌∷◌, ◌++◌, Option, Some, None, Result, Ok, Err, Bool, true, false, cond, nat_eq, nat_le, nat_lt, replicate, slice_get, option_and_then}
use Rattle.wasm_syntax.specs.declared.limits.TheConstants.{PAGE_SIZE}
use Rattle.wasm_syntax.specs.declared.values.Val.{Val}
use Rattle.wasm_syntax.specs.declared.signatures.GlobalType.{GlobalType}
use Rattle.base.specs.declared.outcomes.Outcome.{Outcome}
use Rattle.trace_model.specs.declared.events.Event.{Event}
use Rattle.trace_model.specs.declared.events.Event.TheVariants as events
use Rattle.trace_model.specs.declared.events.Event.TheVariants.{Seen, Table, Bytes, Entry, Global}
use Rattle.trace_model.specs.declared.events.Log.{Log}
use Rattle.history_spec.specs.Store.{Store, pages, bytes_of}
use Rattle.history_spec.specs.Instantiation.{table_length}
use Rattle.history_spec.specs.Instruction.{bits_at}
use Rattle.record_replay_spec.specs.Observations.{Observation, Reads, Copies, Reaches, Resizes, ReadsEntry, ReachesEntry, ReadsGlobal, WritesGlobal, load_observations, store_observations, copy_observations, size_observations, entry_observations}
use Rattle.record_replay_spec.specs.Alike.{same_option, same_value}
use Rattle.record_replay_spec.specs.Known.{Known, entry_of, pages_of, opening_known, known_after}
use Rattle.record_replay_spec.specs.declared.hooks.Hook.{Hook}
use Rattle.record_replay_spec.specs.declared.hooks.Hook.TheVariants.{Enter, Leave, Pre, Post, Ipre, Ipost, Load, Store as ToStore, Size, Grow, Gget, Gset, Copy, Fill}
use Rattle.record_replay_spec.specs.Hooks.{HookCall, original, on}
use Rattle.record_replay_spec.specs.Order.{HookedShape, OrderState, order_start, ordered_step}

-- ---- what a call observes

-- the result of a growth that fails: -1, without sign (Core 1.0, 4.4.4)
abbrev pub failed_growth : ℕ
failed_growth = 0xFFFFFFFF

-- the size that a growth found, by its result and the size that it left: a growth that fails changes nothing. The log
-- uses only the size left; the size found makes a call observe what the original's step does, and a foreign module may
-- report any result.
abbrev pub found_by_growth : (result left : ℕ) → ℕ
found_by_growth result left = cond (nat_eq result failed_growth) left result

-- the bits that a hook reports of a global, as a value of the global's type
abbrev pub value_of_global : GlobalType → (bits : ℕ) → Val
value_of_global ty bits = record { ty = ty.ty; bits = bits }

-- what a hook call observes of the store that is its view; table entries are those of the instrumented module
abbrev pub observed_by : HookedShape → Hook → List Val → Store → List Observation
observed_by shape Load args view =
    on view.memory (load_observations (bits_at args 0 + bits_at args 1) (bits_at args 2))
observed_by shape ToStore args view =
    on view.memory
    (store_observations (bits_at args 0 + bits_at args 1) (bits_at args 2) (bytes_of (bits_at args 2) (bits_at args 3)))
observed_by shape Size args view = on view.memory size_observations
observed_by shape Grow args view =
    on view.memory (λ memory. Resizes (found_by_growth (bits_at args 0) (pages memory)) (pages memory) ∷ [])
observed_by shape Copy args view =
    on view.memory (copy_observations (bits_at args 0) (bits_at args 1) (bits_at args 2))
observed_by shape Fill args view =
    on view.memory
    (store_observations (bits_at args 0) (bits_at args 2) (replicate (bits_at args 2) (bits_at args 1 % 256)))
observed_by shape Ipre args view = on view.table (entry_observations (bits_at args 0))
observed_by shape Gget args view =
    on (slice_get shape.globals (bits_at args 0)) (λ ty.
    ReadsGlobal (bits_at args 0) (value_of_global ty (bits_at args 1)) ∷ [])
observed_by shape Gset args view =
    on (slice_get shape.globals (bits_at args 0)) (λ ty.
    WritesGlobal (bits_at args 0) (value_of_global ty (bits_at args 1)) ∷ [])
observed_by shape kind args view = []

-- what a hook call observes
abbrev pub call_observations : HookedShape → HookCall → List Observation
call_observations shape call = observed_by shape call.kind call.args call.view

-- ---- the events of an observation

-- what is known, and the last noticed size of the memory
pub record LogState : Type 0 where
  pub known : Known
  pub noticed : ℕ

-- the state at the start of a run
abbrev pub log_start : (opened : Store) → LogState
log_start opened = record { known = opening_known opened; noticed = pages_of opened.memory }

-- a byte in front of runs of bytes, joined with the first run if that is directly after it
abbrev pub with_first_byte : (address byte : ℕ) → List Event → List Event
with_first_byte address byte (Bytes at bytes ∷ runs) =
    cond (nat_eq at (address + 1)) (Bytes address (byte ∷ bytes) ∷ runs)
    (Bytes address (byte ∷ []) ∷ Bytes at bytes ∷ runs)
with_first_byte address byte runs = Bytes address (byte ∷ []) ∷ runs

-- the longest runs of the bytes that are not the known ones, from an address on
abbrev pub differing_runs : (known : ℕ → ℕ) → (address : ℕ) → List ℕ → List Event
differing_runs known address [] = []
differing_runs known address (byte ∷ bytes) =
    cond (nat_eq byte (known address)) (differing_runs known (address + 1) bytes)
    (with_first_byte address byte (differing_runs known (address + 1) bytes))

-- an event, unless what it reports is known
abbrev pub unless : Bool → Event → List Event
unless true event = []
unless false event = event ∷ []

-- the event that the size is seen, if the known size is not the noticed one
abbrev pub seen_events : LogState → List Event
seen_events state = unless (nat_eq state.known.pages state.noticed) Seen

-- an observation sees the memory's size: it is of the size, or an access whose end is past the known size
abbrev pub sees_size : (known : ℕ) → Observation → Bool
sees_size known (Reaches end found) = cond (nat_le end (known * PAGE_SIZE)) false true
sees_size known (Resizes found left) = true
sees_size known o = false

-- the events of what an observation finds, if the original imports `n` functions
abbrev pub found_events : (n : ℕ) → Known → Observation → List Event
found_events n known (Reads address bytes) = differing_runs known.byte address bytes
found_events n known (Copies address bytes) = differing_runs known.byte address bytes
found_events n known (ReachesEntry index found) =
    cond (nat_lt index known.entries) [] (unless (nat_eq found known.entries) (Table found))
found_events n known (ReadsEntry index func) =
    unless (same_option nat_eq (known.entry index) func) (Entry index (option_and_then (original n) func))
found_events n known (ReadsGlobal global value) =
    unless (same_option same_value (known.global global) (Some value)) (Global global value)
found_events n known o = []

-- the events of an observation
abbrev pub observed_events : (n : ℕ) → LogState → Observation → List Event
observed_events n state o =
    cond (sees_size state.known.pages o) (seen_events state) [] ++ found_events n state.known o

-- the state after an observation; a size that is seen is known and noticed
abbrev pub log_after : LogState → Observation → LogState
log_after state o =
    let known : Known = known_after state.known o
    in record { known = known; noticed = cond (sees_size state.known.pages o) known.pages state.noticed }

-- the events of a list of observations
abbrev pub all_observed_events : (n : ℕ) → LogState → List Observation → List Event
all_observed_events n state [] = []
all_observed_events n state (o ∷ later) = observed_events n state o ++ all_observed_events n (log_after state o) later

-- the state after a list of observations
abbrev pub log_after_all : LogState → List Observation → LogState
log_after_all state [] = state
log_after_all state (o ∷ later) = log_after_all (log_after state o) later

-- ---- the events of a call

-- control came from the host, or may have come from it, so the size is noticed
abbrev pub notices_size : Hook → Bool
notices_size Enter = true
notices_size Post = true
notices_size Ipost = true
notices_size kind = false

-- the event that the memory has another size than the noticed one
abbrev pub grown_events : (noticed : ℕ) → Store → List Event
grown_events noticed view = unless (nat_eq (pages_of view.memory) noticed) (events.Grow (pages_of view.memory))

-- the event of a hook call itself, with the values that were reported for it
abbrev pub own_events : (n : ℕ) → (pending : List Val) → Hook → List Val → Store → List Event
own_events n pending Enter args view = events.Enter (bits_at args 0) pending ∷ []
own_events n pending Leave args view = events.Leave (bits_at args 0) ∷ []
own_events n pending Pre args view = events.Pre (Some (bits_at args 0)) ∷ []
own_events n pending Ipre args view =
    events.Pre (option_and_then (original n) (entry_of view.table (bits_at args 0))) ∷ []
own_events n pending Post args view = events.Post (slice_get pending 0) ∷ []
own_events n pending Ipost args view = events.Post (slice_get pending 0) ∷ []
own_events n pending kind args view = []

-- the events of a hook call: those of its observations, its own, and a growth that is noticed
abbrev pub call_events : HookedShape → LogState → (pending : List Val) → HookCall → List Event
call_events shape state pending call =
    all_observed_events shape.imports state (call_observations shape call)
    ++ (own_events shape.imports pending call.kind call.args call.view
    ++ cond (notices_size call.kind) (grown_events state.noticed call.view) [])

-- the state after a hook call that may notice the size
abbrev pub log_noticing : HookCall → LogState → LogState
log_noticing call state = cond (notices_size call.kind) (record state { noticed = pages_of call.view.memory }) state

-- the state after a hook call: after its observations, with the size noticed if the call notices it
abbrev pub log_after_call : HookedShape → LogState → HookCall → LogState
log_after_call shape state call = log_noticing call (log_after_all state (call_observations shape call))

-- ---- the log

-- events in front of a result, if no call is out of order
abbrev pub after_events : List Event → Result (List Event) ℕ → Result (List Event) ℕ
after_events first (Ok later) = Ok (first ++ later)
after_events first (Err number) = Err number

-- the result of the calls after one, by the order after it; if that call is out of order, its number
abbrev pub events_or : (number : ℕ) → Option OrderState → (OrderState → Result (List Event) ℕ) → Result (List Event) ℕ
events_or number None go = Err number
events_or number (Some order) go = go order

-- the events of calls, counted from `at` on, or the number of the first call out of order
abbrev pub events_from : HookedShape → OrderState → LogState → (at : ℕ) → List HookCall → Result (List Event) ℕ
events_from shape order state at [] = Ok []
events_from shape order state at (call ∷ calls) =
    events_or at (ordered_step shape order call) (λ next.
    after_events (call_events shape state order.pending call)
    (events_from shape next (log_after_call shape state call) (at + 1) calls))

-- the log of events and an outcome
abbrev pub log_with : (imports : ℕ) → Outcome → Result (List Event) ℕ → Result Log ℕ
log_with imports outcome (Ok found) = Ok (record { imports = imports; events = found; outcome = outcome })
log_with imports outcome (Err number) = Err number

-- the log of the hook calls of a run that begins in a store, with its outcome, or the number of the first call out
-- of order
abbrev pub log_of : HookedShape → (opened : Store) → List HookCall → Outcome → Result Log ℕ
log_of shape opened calls outcome =
    log_with shape.imports outcome
    (events_from shape (order_start (table_length opened.table)) (log_start opened) 0 calls)
