-- The events of the hook calls for an entry.
use Rattle.std.proofs.Common.{◌≡◌, ℕ, ◌+◌, ◌<◌, ◌≤◌, List, [], ◌∷◌, ◌++◌, Option, Some, None, Bool, true, false, cond, nat_lt, slice_get, refl, sym, ap, ◌∙◌, subst}
use Rattle.std.specs.Prelude.{◌||◌, IfSome, Result, Ok, Err, option_and_then}
use Rattle.std.specs.List.{AllByRecursion}
use Rattle.std.proofs.lemmas.List.{append_assoc, append-nil}
use Rattle.wasm_syntax.specs.declared.values.Val.{Val}
use Rattle.wasm_syntax.specs.declared.modules.Module.{Module}
use Rattle.wasm_syntax.specs.Index.{imported_funcs, all_globals}
use Rattle.trace_model.specs.declared.events.Event.{Event}
use Rattle.trace_model.specs.declared.events.Event.TheVariants as events
use Rattle.history_spec.specs.Code.{i32_value}
use Rattle.history_spec.specs.Instantiation.{table_length}
use Rattle.history_spec.specs.Store.{Store}
use Rattle.record_replay_spec.specs.Known.{entry_of, pages_of}
use Rattle.record_replay_spec.specs.Observations.{Observation}
use Rattle.type_safety.specs.Stores.{func_count}
use Rattle.record_replay_spec.specs.declared.hooks.Hook.TheVariants.{Enter as ToEnter, Leave, Pre, Ipre}
use Rattle.record_replay_spec.specs.Hooks.{HookCall, renumbered_call, renumbered_view, original}
use Rattle.record_replay_spec.specs.Logs.{LogState, call_observations, grown_events, notices_size, call_events, log_after_call, log_after_all, all_observed_events, after_events, events_or, events_from}
use Rattle.record_replay_spec.specs.Order.{HookedShape, OrderState, may_report, may_enter, ordered_step}
use Rattle.record_replay_spec.specs.ReportedCalls.{reported_values, reported_number, reported_enter, reported_over}
use Rattle.tape_laws.proofs.CallObservations.{seen_by}
use Rattle.tape_laws.proofs.CallOrder as orders
use Rattle.tape_laws.proofs.CallOrder.{same_entry, IsHooked, renumbered, state, AreOrdered}
use Rattle.tape_laws.proofs.Trails.{Level, AtFunction, AtCall, order_frames, with_top_entered, IsTypedFor, AreReportable}
use Rattle.tape_laws.proofs.ItemSteps.{after_both, events_both}
use Rattle.tape_laws.proofs.ObservedFinds.{original_entry}

after_nil : (r : Result (List Event) ℕ) → after_events [] r ≡ r
after_nil (Ok later) = refl
after_nil (Err number) = refl

after_parts : (a b : List Event) (r : Result (List Event) ℕ) → after_events a (after_events b r) ≡ after_events (a ++ b) r
after_parts a b (Ok later) = ap Ok (sym (append_assoc a b later))
after_parts a b (Err number) = refl

-- the log notices the size of the memory
abbrev pub noticing : Store → LogState → LogState
noticing view st = record st { noticed = pages_of view.memory }

module _ (m : Module) (shape : HookedShape) where
  -- calls have events, and lead to an order and a log
  pub record Logged (order : OrderState) (st : LogState) (calls : List HookCall) (events : List Event)
      (next_order : OrderState) (next_st : LogState) : Type 0 where
    pub logged : (at : ℕ) (rest : List HookCall)
        → (next : ℕ)
        × (events_from shape order st at (renumbered m calls ++ rest)
        ≡ after_events events (events_from shape next_order next_st next rest))

module _ (m : Module) (shape : HookedShape) (hooked : IsHooked m shape) where
  abbrev n : ℕ
  n = imported_funcs m

  abbrev seen : List HookCall → List Observation
  seen calls = seen_by shape n (all_globals m) calls

  none_logged : (order : OrderState) (st : LogState) → Logged m shape order st [] [] order st
  none_logged order st = record { logged = λ at rest. (at, sym (after_nil (events_from shape order st at rest))) }

  one_logged : (call : HookCall) (order next after : OrderState) (st : LogState)
      → ordered_step shape order (renumbered_call n call) ≡ Some next → next ≡ after
      → Logged m shape order st (call ∷ []) (call_events shape st order.pending (renumbered_call n call)) after
      (log_after_call shape st (renumbered_call n call))
  one_logged call order next after st e same =
      record {
        logged = λ at rest. (
          at + 1,
          ap
              (λ o. events_or at o (λ x.
              after_events (call_events shape st order.pending (renumbered_call n call))
              (events_from shape x (log_after_call shape st (renumbered_call n call)) (at + 1) rest)))
              (e ∙ ap Some same),
        );
      }

  pub both_logged : (a b : List HookCall) (first second : List Event) (order middle after : OrderState)
      (st now last : LogState) → Logged m shape order st a first middle now → Logged m shape middle now b second after last
      → Logged m shape order st (a ++ b) (first ++ second) after last
  both_logged a b first second order middle after st now last x y =
      record {
        logged = λ at rest.
            let p = x.logged at (renumbered m b ++ rest) in
            let q = y.logged p.0 rest in (
              q.0,
              ap (λ l. events_from shape order st at (l ++ rest))
                  (orders.renumbered_both m a b)
                  ∙ ap (events_from shape order st at) (append_assoc (renumbered m a) (renumbered m b) rest)
                  ∙ p.1
                  ∙ ap (after_events first) q.1
                  ∙ after_parts first second (events_from shape after last q.0 rest),
            );
      }

  -- ---- values

  record IsSilent (call : HookCall) : Type 0 where
    pub events : (st : LogState) (pending : List Val) → call_events shape st pending (renumbered_call n call) ≡ []
    pub same : (st : LogState) → log_after_call shape st (renumbered_call n call) ≡ st

  silent_logged : (calls : List HookCall) (order after : OrderState) (st : LogState)
      → AreOrdered shape order (renumbered m calls) after → AllByRecursion IsSilent calls → Logged m shape order st calls [] after st
  silent_logged [] order after st h q = subst (λ o. Logged m shape order st [] [] o st) h (none_logged order st)
  silent_logged (call ∷ calls) order after st h q =
      both_logged (call ∷ []) calls [] [] order h.0 after st st st
      (subst (λ now. Logged m shape order st (call ∷ []) [] h.0 now) (q.0.same st)
      (subst
      (λ l. Logged m shape order st (call ∷ []) l h.0 (log_after_call shape st (renumbered_call n call)))
      (q.0.events st order.pending) (one_logged call order h.0 h.0 st h.1 refl)))
      (silent_logged calls h.0 after st h.2 q.1)

  values_silent : (view : Store) (values : List Val) → AllByRecursion IsSilent (reported_values view values)
  values_silent view [] = tt
  values_silent view (value ∷ values) =
      (record { events = λ st pending. refl; same = λ st. refl }, values_silent view values)

  -- ---- entries

  pub enter_logged : (func : ℕ) (args : List Val) (levels : List Level) (entries : ℕ) (view : Store) (st : LogState)
      → n ≤ func → func < func_count m → IsTypedFor m shape func (λ ty. ty.params) args
      → may_enter shape func (order_frames levels) ≡ true
      → Logged m shape (state levels [] entries) st (reported_enter func args view)
      (events.Enter func args ∷ grown_events st.noticed view)
      (state (AtFunction func ∷ with_top_entered levels) [] entries) (noticing view st)
  enter_logged func args levels entries view st own below typed may =
      let step = orders.enter_step m shape hooked func args levels entries view own below typed may in
      both_logged (reported_values view args) (reported_number ToEnter func view) []
      (events.Enter func args ∷ grown_events st.noticed view) (state levels [] entries) (state levels args entries)
      (state (AtFunction func ∷ with_top_entered levels) [] entries) st st (noticing view st)
      (silent_logged (reported_values view args) (state levels [] entries) (state levels args entries) st
      (orders.params_ordered m shape hooked func args levels entries view typed)
      (values_silent view args))
      (one_logged _ (state levels args entries) step.0 (state (AtFunction func ∷ with_top_entered levels) [] entries) st
      step.1 step.2)

  pub leave_logged : (func : ℕ) (levels : List Level) (entries : ℕ) (view : Store) (st : LogState)
      → Logged m shape (state (AtFunction func ∷ levels) [] entries) st (reported_number Leave func view)
      (events.Leave func ∷ []) (state levels [] entries) st
  leave_logged func levels entries view st =
      let step = orders.leave_ordered m shape hooked func levels entries view in
      one_logged _ (state (AtFunction func ∷ levels) [] entries) step.0 (state levels [] entries) st step.1 step.2

  pub over_logged : (direct : Bool) (callee : ℕ) (entered : Bool) (args results : List Val) (levels : List Level)
      (entries : ℕ) (view : Store) (st : LogState) → (nat_lt callee n || entered) ≡ true
      → IsTypedFor m shape callee (λ ty. ty.results) results
      → Logged m shape (state (AtCall direct callee entered args ∷ levels) [] entries) st
      (reported_values view results ++ reported_over (cond direct (Some callee) None) view)
      (events.Post (slice_get results 0) ∷ grown_events st.noticed view) (state levels [] entries) (noticing view st)
  over_logged direct callee entered args results levels entries view st may typed =
      both_logged (reported_values view results) (reported_over (cond direct (Some callee) None) view) []
      (events.Post (slice_get results 0) ∷ grown_events st.noticed view)
      (state (AtCall direct callee entered args ∷ levels) [] entries)
      (state (AtCall direct callee entered args ∷ levels) results entries) (state levels [] entries) st st
      (noticing view st)
      (silent_logged (reported_values view results) (state (AtCall direct callee entered args ∷ levels) [] entries)
      (state (AtCall direct callee entered args ∷ levels) results entries) st
      (orders.results_ordered m shape hooked callee results
      (AtCall direct callee entered args ∷ levels) entries view typed)
      (values_silent view results))
      (go direct
      (orders.over_step m shape hooked direct callee entered args results levels entries view may typed))
    where
      go : (direct : Bool)
          → AreOrdered shape (state (AtCall direct callee entered args ∷ levels) results entries)
          (renumbered m (reported_over (cond direct (Some callee) None) view)) (state levels [] entries)
          → Logged m shape (state (AtCall direct callee entered args ∷ levels) results entries) st
          (reported_over (cond direct (Some callee) None) view)
          (events.Post (slice_get results 0) ∷ grown_events st.noticed view) (state levels [] entries)
          (noticing view st)
      go true step =
          one_logged _ (state (AtCall true callee entered args ∷ levels) results entries) step.0
          (state levels [] entries) st step.1 step.2
      go false step =
          one_logged _ (state (AtCall false callee entered args ∷ levels) results entries) step.0
          (state levels [] entries) st step.1 step.2

  pub pre_logged : (callee func : ℕ) (operands : List Val) (levels : List Level) (entries : ℕ) (view : Store)
      (st : LogState) → callee < func_count m
      → Logged m shape (state (AtFunction func ∷ levels) [] entries) st (reported_number Pre callee view ++ [])
      (events.Pre (Some callee) ∷ []) (state (AtCall true callee false operands ∷ AtFunction func ∷ levels) [] entries) st
  pre_logged callee func operands levels entries view st below =
      let step = orders.pre_ordered m shape hooked callee func operands levels entries view below in
      one_logged _ (state (AtFunction func ∷ levels) [] entries) step.0
      (state (AtCall true callee false operands ∷ AtFunction func ∷ levels) [] entries) st step.1 step.2

  pub ipre_logged : (func index : ℕ) (levels : List Level) (entries : ℕ) (view : Store) (callee : Option ℕ)
      (st : LogState) → entries ≤ table_length view.table → entry_of view.table index ≡ callee
      → IfSome callee (λ callee. callee < func_count m)
      → Logged m shape (state (AtFunction func ∷ levels) [] entries) st (reported_number Ipre index view)
      (all_observed_events n st (seen (reported_number Ipre index view)) ++ events.Pre callee ∷ [])
      (orders.after_index m shape hooked func index levels entries view callee)
      (log_after_all st (seen (reported_number Ipre index view)))
  ipre_logged func index levels entries view callee st fits entry there =
      let step = orders.ipre_ordered m shape hooked func index levels entries view callee fits entry
      there in
      let call : HookCall = record { kind = Ipre; args = i32_value index ∷ []; view = view } in
      let obs = call_observations shape (renumbered_call n call) in
      subst
      (λ l. Logged m shape (state (AtFunction func ∷ levels) [] entries) st (call ∷ [])
      (all_observed_events n st l ++ events.Pre callee ∷ [])
      (orders.after_index m shape hooked func index levels entries view callee) (log_after_all st l))
      (sym (append-nil obs))
      (subst
      (λ e. Logged m shape (state (AtFunction func ∷ levels) [] entries) st (call ∷ []) e
      (orders.after_index m shape hooked func index levels entries view callee) (log_after_all st obs))
      (ap
      (λ i. all_observed_events i st obs
      ++ events.Pre (option_and_then (original i) (entry_of (renumbered_view n view).table index)) ∷ [])
      hooked.is.imports
      ∙ ap (λ e. all_observed_events n st obs ++ events.Pre e ∷ [])
      (ap (option_and_then (original n)) (same_entry n view.table index)
      ∙ original_entry n (hooked.indices.of_renumbered n) (entry_of view.table index) ∙ entry))
      (one_logged call (state (AtFunction func ∷ levels) [] entries) step.0
      (orders.after_index m shape hooked func index levels entries view callee) st step.1 step.2))

  -- ---- hooks that change no frames

  pub reportable_logged : (calls : List HookCall) (order : OrderState) (st : LogState) → may_report order ≡ true
      → AreReportable m shape calls
      → Logged m shape order st calls (all_observed_events n st (seen calls)) order (log_after_all st (seen calls))
  reportable_logged [] order st may h = none_logged order st
  reportable_logged (call ∷ calls) order st may h =
      subst (λ e. Logged m shape order st (call ∷ calls) e order (log_after_all st (seen (call ∷ calls))))
      (sym (events_both n st obs (seen calls)))
      (subst
      (λ s. Logged m shape order st (call ∷ calls)
      (all_observed_events n st obs ++ all_observed_events n (log_after_all st obs) (seen calls)) order s)
      (sym (after_both st obs (seen calls)))
      (both_logged (call ∷ []) calls (all_observed_events n st obs)
      (all_observed_events n (log_after_all st obs) (seen calls)) order order order st (log_after_all st obs)
      (log_after_all (log_after_all st obs) (seen calls))
      (subst (λ s. Logged m shape order st (call ∷ []) (all_observed_events n st obs) order s) state_is
      (subst
      (λ e. Logged m shape order st (call ∷ []) e order (log_after_call shape st (renumbered_call n call))) events_are
      (one_logged call order order order st (h.0.ordered order may) refl)))
      (reportable_logged calls order (log_after_all st obs) may h.1)))
    where
      obs : List Observation
      obs = call_observations shape (renumbered_call n call)

      view : Store
      view = (renumbered_call n call).view

      events_are : call_events shape st order.pending (renumbered_call n call) ≡ all_observed_events n st obs
      events_are =
          ap
          (λ own. all_observed_events shape.imports st obs
          ++ (own ++ cond (notices_size call.kind) (grown_events st.noticed view) []))
          (h.0.own shape.imports order.pending view)
          ∙ ap (λ b. all_observed_events shape.imports st obs ++ cond b (grown_events st.noticed view) []) h.0.quiet
          ∙ append-nil (all_observed_events shape.imports st obs)
          ∙ ap (λ i. all_observed_events i st obs) hooked.is.imports

      state_is : log_after_call shape st (renumbered_call n call) ≡ log_after_all st obs
      state_is =
          ap (λ b. cond b (record (log_after_all st obs) { noticed = pages_of view.memory }) (log_after_all st obs))
          h.0.quiet
