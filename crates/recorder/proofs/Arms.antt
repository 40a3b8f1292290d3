-- A recording after each kind of call.
use Rattle.std.proofs.Common.{◌≡◌, List, [], ◌++◌, length, Option, Some, None, Result, Ok, Err, Bool, true, false, cond, nat_eq, refl, sym, ap, ◌∙◌, subst}
use Rattle.std.specs.Prelude.{IfNone, IfSome, IsOk, IsSome, OnErr, OnOk, is_some}
use Rattle.std.proofs.lemmas.List.{append-nil}
use Rattle.wasm_syntax.specs.declared.values.Val.{Val}
use Rattle.trace_model.specs.declared.events.Event.{Event}
use Rattle.trace_model.specs.declared.events.Event.TheVariants as events
use Rattle.trace_model.specs.Sink.{TookAlso}
use Rattle.trace_model.proofs.SinkLemmas.{took_both, took_same}
use Rattle.history_spec.specs.Store.{Store, Memory}
use Rattle.wasm_store.specs.Calls.{pages_in, pages_of_memory}
use Rattle.record_replay_spec.specs.Observations.{Observation}
use Rattle.record_replay_spec.specs.Known.{pages_of}
use Rattle.record_replay_spec.specs.declared.hooks.Hook.{Hook}
use Rattle.record_replay_spec.specs.Hooks.{HookCall}
use Rattle.record_replay_spec.specs.Logs.{LogState, unless, own_events, notices_size, grown_events, observed_by, call_observations, call_events, all_observed_events, log_after_all, log_after_call}
use Rattle.hook_order.specs.Orders.{OrderParts, LeadsTo, state_of}
use Rattle.hook_order.specs.Shapes.{shape_from}
use Rattle.shadow_memory.specs.Shadow.{Shadow}
use Rattle.shadow_tables.specs.Tables.{Tables}
use Rattle.recorder.specs.Known.{Show, Reports, ReportsMemory, ReportsTables}
use Rattle.recorder.specs.Recordings.{Recording, Logs, Takes, order_after}
use Rattle.recorder.proofs.Kit.{resized}

pub pages_same : (memory : Option Memory) → pages_of_memory memory ≡ pages_of memory
pages_same None = refl
pages_same (Some memory) = refl

module _ {S : Type 0} (has_taken : S → S → List Event → Type 0) (before : Recording S) (kind : Hook) (args : List Val)
    (view : Store) where
  abbrev call : HookCall
  call = record { kind = kind; args = args; view = view }

  -- the observations of the call, and its own events
  abbrev seen : List Observation
  seen = call_observations (shape_from before.order.shape) call

  abbrev own : List Event
  own = own_events before.order.shape.imports before.order.pending kind args view

  -- the log after the call, and the call's events, by whether the call notices the size
  log_by : (state : LogState) (b : Bool) → notices_size kind ≡ b
      → log_after_call (shape_from before.order.shape) state call
      ≡ cond b (record (log_after_all state seen) { noticed = pages_of view.memory }) (log_after_all state seen)
  log_by state b noticing =
      ap
      (λ b. cond b (record (log_after_all state seen) { noticed = pages_of view.memory }) (log_after_all state seen))
      noticing

  events_by : (state : LogState) (b : Bool) → notices_size kind ≡ b
      → call_events (shape_from before.order.shape) state before.order.pending call
      ≡ all_observed_events before.order.shape.imports state seen ++ (own ++ cond b (grown_events state.noticed view) [])
  events_by state b noticing =
      ap
      (λ b. all_observed_events before.order.shape.imports state seen
      ++ (own ++ cond b (grown_events state.noticed view) []))
      noticing

  -- a call that the order takes
  led : (parts : OrderParts) → LeadsTo before.order kind args (Some parts)
      → order_after before call ≡ Some (state_of (length before.tables.entries) parts)
  led parts h = h (length before.tables.entries) view

  takes_led : (after : Recording S) (parts : OrderParts) → LeadsTo before.order kind args (Some parts)
      → after.order ≡ parts → parts.shape ≡ before.order.shape
      → length after.tables.entries ≡ length before.tables.entries
      → Logs has_taken before call after → Takes has_taken before call after
  takes_led after parts h same shape size logged =
      record {
        shape = ap (λ p. p.shape) same ∙ shape;
        ordered =
            led parts h
            ∙ ap (λ k. Some (state_of k parts)) (sym size)
            ∙ ap (λ p. Some (state_of (length after.tables.entries) p)) (sym same);
        logged = logged;
      }

  -- the call is only observed
  logs_observed : (after : Recording S) → own ≡ []
      → notices_size kind ≡ false
      → Reports has_taken before.order.shape.imports
      (record { memory = before.memory; tables = before.tables; sink = before.sink })
      (observed_by (shape_from before.order.shape) kind args view)
      (record { memory = after.memory; tables = after.tables; sink = after.sink })
      → Logs has_taken before call after
  logs_observed after none quiet reports state shows =
      let reported = reports state shows in (
        subst (Show after.memory after.tables) (sym (log_by state false quiet)) reported.0,
        took_same has_taken before.sink after.sink _ _
            (sym
            (events_by state false quiet
            ∙ ap (λ o. all_observed_events before.order.shape.imports state seen ++ (o ++ []))
            none
            ∙ append-nil (all_observed_events before.order.shape.imports state seen))) reported.1,
      )

  -- observations of only the memory; of only the tables
  pub takes_memory : (memory : Shadow) (sink : S) → LeadsTo before.order kind args (Some before.order)
      → own ≡ [] → notices_size kind ≡ false
      → ReportsMemory has_taken before.memory before.sink (observed_by (shape_from before.order.shape) kind args view)
      memory sink
      → Takes has_taken before call
      (record { order = before.order; memory = memory; tables = before.tables; sink = sink })
  takes_memory memory sink h own quiet reports =
      takes_led (record { order = before.order; memory = memory; tables = before.tables; sink = sink }) before.order h
      refl refl refl
      (logs_observed (record { order = before.order; memory = memory; tables = before.tables; sink = sink }) own quiet
      (reports before.order.shape.imports before.tables))

  pub takes_tables : (tables : Tables) (sink : S) → LeadsTo before.order kind args (Some before.order)
      → length tables.entries ≡ length before.tables.entries
      → own ≡ [] → notices_size kind ≡ false
      → ReportsTables has_taken before.order.shape.imports before.tables before.sink
      (observed_by (shape_from before.order.shape) kind args view) tables sink
      → Takes has_taken before call
      (record { order = before.order; memory = before.memory; tables = tables; sink = sink })
  takes_tables tables sink h size own quiet reports =
      takes_led (record { order = before.order; memory = before.memory; tables = tables; sink = sink }) before.order h
      refl refl size
      (logs_observed (record { order = before.order; memory = before.memory; tables = tables; sink = sink }) own quiet
      (reports before.memory))

  -- nothing is observed
  pub takes_reported : (order parts : OrderParts) (sink : S) → LeadsTo before.order kind args (Some parts) → order ≡ parts
      → parts.shape ≡ before.order.shape → observed_by (shape_from before.order.shape) kind args view ≡ []
      → notices_size kind ≡ false
      → TookAlso has_taken before.sink sink
      (own_events before.order.shape.imports before.order.pending kind args view)
      → Takes has_taken before call
      (record { order = order; memory = before.memory; tables = before.tables; sink = sink })
  takes_reported order parts sink h same shape none quiet reported =
      takes_led (record { order = order; memory = before.memory; tables = before.tables; sink = sink }) parts h same shape
      refl logged
    where
      logged : Logs has_taken before call
          (record { order = order; memory = before.memory; tables = before.tables; sink = sink })
      logged state shows = (
        subst (Show before.memory before.tables)
            (sym (log_by state false quiet ∙ ap (log_after_all state) none)) shows,
        took_same has_taken before.sink sink own _
            (sym
            (events_by state false quiet
            ∙ ap (λ seen. all_observed_events before.order.shape.imports state seen ++ (own ++ [])) none
            ∙ append-nil own)) reported,
      )

  -- and the size is noticed
  pub takes_noticed : (order parts : OrderParts) (memory : Shadow) (middle sink : S)
      → LeadsTo before.order kind args (Some parts) → order ≡ parts → parts.shape ≡ before.order.shape
      → observed_by (shape_from before.order.shape) kind args view ≡ [] → notices_size kind ≡ true
      → TookAlso has_taken before.sink middle
      (own_events before.order.shape.imports before.order.pending kind args view)
      → memory ≡ record before.memory { noticed = pages_in view }
      → TookAlso has_taken middle sink
      (unless (nat_eq (pages_in view) before.memory.noticed) (events.Grow (pages_in view)))
      → Takes has_taken before call (record { order = order; memory = memory; tables = before.tables; sink = sink })
  takes_noticed order parts memory middle sink h same shape none noticing reported noticed grown =
      subst
      (λ m. Takes has_taken before call (record { order = order; memory = m; tables = before.tables; sink = sink }))
      (sym noticed)
      (takes_led
      (record {
        order = order;
        memory = record before.memory { noticed = pages_in view };
        tables = before.tables;
        sink = sink;
      })
      parts h same shape refl logged)
    where
      grew : (state : LogState) → Show before.memory before.tables state
          → unless (nat_eq (pages_in view) before.memory.noticed) (events.Grow (pages_in view))
          ≡ grown_events state.noticed view
      grew state shows =
          ap (λ noticed. unless (nat_eq (pages_in view) noticed) (events.Grow (pages_in view))) (sym shows.noticed)
          ∙ ap (λ found. unless (nat_eq found state.noticed) (events.Grow found)) (pages_same view.memory)

      logged : Logs has_taken before call
          (record {
            order = order;
            memory = record before.memory { noticed = pages_in view };
            tables = before.tables;
            sink = sink;
          })
      logged state shows = (
        subst (Show (record before.memory { noticed = pages_in view }) before.tables)
            (sym
            (log_by state true noticing
            ∙ ap (λ seen. record (log_after_all state seen) { noticed = pages_of view.memory }) none))
            (resized shows state.known.pages (pages_of view.memory) before.memory.known (pages_in view) shows.pages
            (sym (pages_same view.memory))),
        took_same has_taken before.sink sink _ _
            (sym
            (events_by state true noticing
            ∙ ap
            (λ seen. all_observed_events before.order.shape.imports state seen
            ++ (own ++ grown_events state.noticed view))
            none
            ∙ ap (λ g. own ++ g) (sym (grew state shows))))
            (took_both has_taken before.sink middle sink own _ reported grown),
      )

-- if memory is out, the call was in order
is_err : {A E P : Type 0} (result : Result A E) → P → OnErr result P
is_err (Ok x) h = tt
is_err (Err e) h = h

pub err_led : {A E X : Type 0} (result : Result A E) {o : Option X} {x : X} → o ≡ Some x → OnErr result (IsSome o)
err_led result is = is_err result (ap is_some is)

-- a consequence of what holds if memory was enough
pub on_ok : {A E P Q : Type 0} (result : Result A E) → (P → Q) → OnOk result P → OnOk result Q
on_ok (Ok x) f h = f h
on_ok (Err e) f h = tt

-- the value of an option has what the option promises
pub if_some : {X : Type 0} (o : Option X) (P : X → Type 0) (x : X) → o ≡ Some x → IfSome o P → P x
if_some o P x is h = subst (λ o. IfSome o P) is h

pub if_none : {X P : Type 0} (o : Option X) → o ≡ None → IfNone o P → P
if_none {P = P} o is h = subst (λ o. IfNone o P) is h

pub is_ok : {A E : Type 0} (result : Result A E) → IsOk result → (x : A) × (result ≡ Ok x)
is_ok (Ok x) h = (x, refl)
is_ok (Err e) h = absurd (apart h)
  where
    apart : false ≡ true → ⊥
    apart e = cc
