-- A recording after each hook call.
use Rattle.std.proofs.Common.{◌≡◌, ℕ, List, [], ◌∷◌, ◌++◌, length, Some, true, false, nat_eq, slice_get, slice_set, option_and_then, refl, sym, ap, ◌∙◌, subst}
use Rattle.wasm_syntax.specs.declared.values.Val.{Val}
use Rattle.trace_model.specs.declared.events.Event.{Event}
use Rattle.trace_model.specs.declared.events.Event.TheVariants as events
use Rattle.trace_model.specs.Sink.{TookAlso}
use Rattle.trace_model.proofs.SinkLemmas.{took_none, took_both, took_same}
use Rattle.history_spec.specs.Store.{Store}
use Rattle.history_spec.specs.Instantiation.{table_length}
use Rattle.history_spec.specs.Instruction.{bits_at}
use Rattle.wasm_store.specs.Calls.{pages_in}
use Rattle.record_replay_spec.specs.Observations.{Observation, ReachesEntry, ReadsGlobal, entry_observations}
use Rattle.record_replay_spec.specs.Known.{entry_of, entries_after}
use Rattle.record_replay_spec.specs.declared.hooks.Hook.{Hook}
use Rattle.record_replay_spec.specs.declared.hooks.Hook.TheVariants.{Arg, Enter, Leave, Pre, Ipre, Gget, Gset}
use Rattle.record_replay_spec.specs.Hooks.{original, on}
use Rattle.record_replay_spec.specs.Logs.{LogState, unless, all_observed_events, call_events, log_after_all, notices_size, observed_by, own_events}
use Rattle.hook_order.specs.Orders.{OrderParts, LeadsTo, IsGlobal, IsEntryCall, parts_pending, parts_entered, parts_called, parts_closed, state_of, step_from}
use Rattle.hook_order.specs.Shapes.{shape_from}
use Rattle.hook_order.specs.declared.access.EntryCall.{EntryCall}
use Rattle.shadow_memory.specs.Shadow.{Shadow}
use Rattle.shadow_tables.specs.Tables.{Tables}
use Rattle.recorder.specs.Known.{HaveTypes, Show, ReportsMemory, ReportsTables}
use Rattle.recorder.specs.Recordings.{Recording, Takes}
use Rattle.recorder.proofs.Arms.{takes_memory, takes_tables, takes_reported, takes_noticed}
use Rattle.recorder.proofs.AccessArguments.{read_is, write_is, known_typed}
use Rattle.recorder.proofs.Entries.{writes_global}

-- the recording with another sink and state of the order; the recording with another memory as well
abbrev reported_after : {S : Type 0} (before : Recording S) (order : OrderParts) → S → Recording S
reported_after before order sink = record { order = order; memory = before.memory; tables = before.tables; sink = sink }

abbrev noticed_after : {S : Type 0} (before : Recording S) (order : OrderParts) → Shadow → S → Recording S
noticed_after before order memory sink =
    record { order = order; memory = memory; tables = before.tables; sink = sink }

module _ {S : Type 0} {has_taken : S → S → List Event → Type 0} {before : Recording S} {args : List Val} {view : Store}
  where
    -- ---- functions and calls

    pub take_arg : (value : Val) {order : OrderParts}
        → LeadsTo before.order Arg args (Some (parts_pending before.order value)) → order ≡ parts_pending before.order value
        → Takes has_taken before (record { kind = Arg; args = args; view = view }) (reported_after before order before.sink)
    take_arg value {order} h same =
        takes_reported has_taken before Arg args view order (parts_pending before.order value) before.sink h same refl refl refl
        (took_none has_taken before.sink)

    pub take_enter : {func : ℕ} {order : OrderParts} {memory : Shadow} {pending : List Val} (middle : S) {sink : S}
        → bits_at args 0 ≡ func → LeadsTo before.order Enter args (Some (parts_entered before.order func))
        → pending ≡ before.order.pending → TookAlso has_taken before.sink middle (events.Enter func pending ∷ [])
        → memory ≡ record before.memory { noticed = pages_in view }
        → TookAlso has_taken middle sink
        (unless (nat_eq (pages_in view) before.memory.noticed) (events.Grow (pages_in view)))
        → order ≡ parts_entered before.order func
        → Takes has_taken before (record { kind = Enter; args = args; view = view }) (noticed_after before order memory sink)
    take_enter {func} {order} {memory} {pending} middle {sink} is h values reported noticed grown same =
        takes_noticed has_taken before Enter args view order (parts_entered before.order func) memory middle sink h same
        refl refl refl
        (took_same has_taken before.sink middle _ _
        (ap (λ f. events.Enter f pending ∷ []) (sym is) ∙ ap (λ p. events.Enter (bits_at args 0) p ∷ []) values) reported)
        noticed grown

    pub take_leave : {func : ℕ} {order : OrderParts} {sink : S} → bits_at args 0 ≡ func
        → LeadsTo before.order Leave args (Some (parts_closed before.order))
        → TookAlso has_taken before.sink sink (events.Leave func ∷ []) → order ≡ parts_closed before.order
        → Takes has_taken before (record { kind = Leave; args = args; view = view }) (reported_after before order sink)
    take_leave {func} {order} {sink} is h reported same =
        takes_reported has_taken before Leave args view order (parts_closed before.order) sink h same refl refl refl
        (took_same has_taken before.sink sink _ _ (ap (λ f. events.Leave f ∷ []) (sym is)) reported)

    pub take_pre : {func : ℕ} {order : OrderParts} {sink : S} → bits_at args 0 ≡ func
        → LeadsTo before.order Pre args (Some (parts_called before.order true (Some func)))
        → TookAlso has_taken before.sink sink (events.Pre (Some func) ∷ [])
        → order ≡ parts_called before.order true (Some func)
        → Takes has_taken before (record { kind = Pre; args = args; view = view }) (reported_after before order sink)
    take_pre {func} {order} {sink} is h reported same =
        takes_reported has_taken before Pre args view order (parts_called before.order true (Some func)) sink h same refl refl
        refl (took_same has_taken before.sink sink _ _ (ap (λ f. events.Pre (Some f) ∷ []) (sym is)) reported)

    -- a call ends, by one of two hooks, which observe nothing, notice the size and report the pending value
    pub take_end : {kind : Hook} {order : OrderParts} {memory : Shadow} {pending : List Val} (middle : S) {sink : S}
        → LeadsTo before.order kind args (Some (parts_closed before.order))
        → observed_by (shape_from before.order.shape) kind args view ≡ [] → notices_size kind ≡ true
        → own_events before.order.shape.imports before.order.pending kind args view
        ≡ events.Post (slice_get before.order.pending 0) ∷ []
        → pending ≡ before.order.pending
        → TookAlso has_taken before.sink middle (events.Post (slice_get pending 0) ∷ [])
        → memory ≡ record before.memory { noticed = pages_in view }
        → TookAlso has_taken middle sink
        (unless (nat_eq (pages_in view) before.memory.noticed) (events.Grow (pages_in view)))
        → order ≡ parts_closed before.order
        → Takes has_taken before (record { kind = kind; args = args; view = view }) (noticed_after before order memory sink)
    take_end {kind} {order} {memory} {pending} middle {sink} h none noticing own values reported noticed grown same =
        takes_noticed has_taken before kind args view order (parts_closed before.order) memory middle sink h same refl
        none noticing
        (took_same has_taken before.sink middle _ _
        (ap (λ p. events.Post (slice_get p 0) ∷ []) values ∙ sym own) reported)
        noticed grown

    pub take_ipre : {known : ℕ} {call : EntryCall} {order : OrderParts} {tables : Tables} (middle : S) {sink : S}
        → known ≡ length before.tables.entries → IsEntryCall before.order args known view call
        → ((n : ℕ) → option_and_then (original n) (entry_of view.table call.index) ≡ call.callee
        → ReportsTables has_taken n before.tables before.sink (on view.table (entry_observations call.index)) tables middle)
        → length tables.entries
        ≡ entries_after (length before.tables.entries) (ReachesEntry call.index (table_length view.table))
        → TookAlso has_taken middle sink (events.Pre call.callee ∷ [])
        → order ≡ parts_called before.order false call.callee
        → Takes has_taken before (record { kind = Ipre; args = args; view = view })
        (record { order = order; memory = before.memory; tables = tables; sink = sink })
    take_ipre {known} {call} {order} {tables} middle {sink} entries is reports size reported same =
        record {
          shape = ap (λ p. p.shape) same;
          ordered =
              subst
              (λ k. step_from k before.order (record { kind = Ipre; args = args; view = view })
              ≡ Some (state_of (entries_after k (ReachesEntry call.index (table_length view.table)))
              (parts_called before.order false call.callee)))
              entries is.step
              ∙ ap (λ k. Some (state_of k (parts_called before.order false call.callee))) (sym size)
              ∙ ap (λ p. Some (state_of (length tables.entries) p)) (sym same);
          logged = λ state shows.
              let observed = reports before.order.shape.imports is.callee before.memory state shows in
              let index = sym is.index in (
                subst (λ i. Show before.memory tables (log_after_all state (on view.table (entry_observations i)))) index
                    observed.0,
                took_same has_taken before.sink sink _ _ (events_same state)
                    (took_both has_taken before.sink middle sink
                    (all_observed_events before.order.shape.imports state (on view.table (entry_observations call.index)))
                    (events.Pre call.callee ∷ []) observed.1 reported),
              );
        }
      where
        events_same : (state : LogState)
            → all_observed_events before.order.shape.imports state (on view.table (entry_observations call.index))
            ++ events.Pre call.callee ∷ []
            ≡ call_events (shape_from before.order.shape) state before.order.pending
            (record { kind = Ipre; args = args; view = view })
        events_same state =
            ap
            (λ callee. all_observed_events before.order.shape.imports state
            (on view.table (entry_observations call.index))
            ++ events.Pre callee ∷ [])
            (sym is.callee)
            ∙ ap
            (λ i. all_observed_events before.order.shape.imports state (on view.table (entry_observations i))
            ++ events.Pre (option_and_then (original before.order.shape.imports) (entry_of view.table i)) ∷ [])
            (sym is.index)

    -- ---- the memory

    -- only the memory is observed, and nothing else is reported
    pub take_memory : {kind : Hook} {memory : Shadow} {sink : S} {seen : List Observation}
        → LeadsTo before.order kind args (Some before.order)
        → seen ≡ observed_by (shape_from before.order.shape) kind args view
        → own_events before.order.shape.imports before.order.pending kind args view ≡ [] → notices_size kind ≡ false
        → ReportsMemory has_taken before.memory before.sink seen memory sink
        → Takes has_taken before (record { kind = kind; args = args; view = view })
        (noticed_after before before.order memory sink)
    take_memory {kind} {memory} {sink} h same none quiet reports =
        takes_memory has_taken before kind args view memory sink h none quiet
        (subst (λ seen. ReportsMemory has_taken before.memory before.sink seen memory sink) same reports)

    -- ---- globals

    pub take_gget : {global : ℕ} {value : Val} {tables : Tables} {sink : S} → IsGlobal before.order args global value
        → LeadsTo before.order Gget args (Some before.order) → tables.entries ≡ before.tables.entries
        → ((n : ℕ) → ReportsTables has_taken n before.tables before.sink (ReadsGlobal global value ∷ []) tables sink)
        → Takes has_taken before (record { kind = Gget; args = args; view = view })
        (record { order = before.order; memory = before.memory; tables = tables; sink = sink })
    take_gget {global} {value} {tables} {sink} is h same reports =
        takes_tables has_taken before Gget args view tables sink h (ap length same) refl refl
        (subst
        (λ seen. ReportsTables has_taken before.order.shape.imports before.tables before.sink seen tables sink)
        (read_is is view) (reports before.order.shape.imports))

    pub take_gset : {global : ℕ} {value : Val} {tables : Tables} → HaveTypes before.order.shape.globals before.tables.globals
        → IsGlobal before.order args global value → LeadsTo before.order Gset args (Some before.order)
        → tables ≡ record before.tables { globals = slice_set before.tables.globals global value }
        → Takes has_taken before (record { kind = Gset; args = args; view = view })
        (record { order = before.order; memory = before.memory; tables = tables; sink = before.sink })
    take_gset {global} {value} {tables} types is h same =
        subst
        (λ t. Takes has_taken before (record { kind = Gset; args = args; view = view })
        (record { order = before.order; memory = before.memory; tables = t; sink = before.sink }))
        (sym same)
        (takes_tables has_taken before Gset args view
        (record before.tables { globals = slice_set before.tables.globals global value }) before.sink h refl
        refl refl
        (subst
        (λ seen. ReportsTables has_taken before.order.shape.imports before.tables before.sink seen
        (record before.tables { globals = slice_set before.tables.globals global value })
        before.sink)
        (write_is is view)
        (writes_global has_taken before.order.shape.imports before.tables global value
        (known_typed is before.tables.globals types) before.sink)))
