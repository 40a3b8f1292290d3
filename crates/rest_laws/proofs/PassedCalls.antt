-- Hook calls that report no top-level call are passed over in the search for one.
use Rattle.std.proofs.Common.{◌≡◌, ℕ, suc, ◌<◌, ◌≤◌, List, [], ◌∷◌, ◌++◌, Option, Some, None, Bool, true, false, cond, ◌&&◌, ◌||◌, nat_lt, refl, sym, ap, ◌∙◌, subst}
use Rattle.std.specs.Prelude.{option_and_then, option_map, unwrap_or}
use Rattle.std.specs.List.{AllByRecursion}
use Rattle.std.proofs.lemmas.List.{append_assoc}
use Rattle.wasm_syntax.specs.declared.values.Val.{Val}
use Rattle.wasm_syntax.specs.declared.modules.Module.{Module}
use Rattle.wasm_syntax.specs.Index.{imported_funcs}
use Rattle.history_spec.specs.Store.{Store}
use Rattle.type_safety.specs.Stores.{func_count}
use Rattle.record_replay_spec.specs.declared.hooks.Hook.TheVariants.{Enter, Leave}
use Rattle.record_replay_spec.specs.Observations.{Observation}
use Rattle.record_replay_spec.specs.Known.{known_after_all}
use Rattle.record_replay_spec.specs.Hooks.{HookCall}
use Rattle.record_replay_spec.specs.Order.{HookedShape, OrderState, may_enter, ordered_step}
use Rattle.record_replay_spec.specs.Logs.{LogState, call_observations, log_after_call}
use Rattle.record_replay_spec.specs.ReportedCalls.{reported_values, reported_number, reported_enter, reported_over}
use Rattle.rest_spec.specs.TopEnters.{is_enter, none_open, enters_at_top, top_enters, by_enter, log_before}
use Rattle.tape_laws.specs.ReportedObservations.{observations_of_calls}
use Rattle.tape_laws.proofs.CallOrder as orders
use Rattle.tape_laws.proofs.CallOrder.{IsHooked, renumbered, renumbered_both, state, AreOrdered}
use Rattle.tape_laws.proofs.KeptInRuns.{known_after_both}
use Rattle.tape_laws.proofs.KnownAfterCalls.{known_after_call}
use Rattle.tape_laws.proofs.Trails.{Level, AtFunction, AtCall, order_frames, with_top_entered, IsTypedFor}

-- the hook call does not report that a function is entered
abbrev pub IsNoEnter : HookCall → Type 0
IsNoEnter call = is_enter call.kind ≡ false

module _ (shape : HookedShape) where
  -- a state of the log from which the search for a top-level call goes on after hook calls that observe this
  pub record LogAfter (order : OrderState) (st : LogState) (calls : List HookCall) (seen : List Observation)
      (after : OrderState) : Type 0 where
    pub log : LogState
    pub knows : log.known ≡ known_after_all st.known seen
    pub same : (number : ℕ) (rest : List HookCall)
        → log_before shape order st number (calls ++ rest) ≡ log_before shape after log number rest

  -- hook calls that observe this lead from a state of the order to another, and report no top-level call
  pub record ArePassed (order : OrderState) (calls : List HookCall) (seen : List Observation) (after : OrderState)
      : Type 0 where
    pub counts : (rest : List HookCall) → top_enters shape order (calls ++ rest) ≡ top_enters shape after rest
    pub logs : (st : LogState) → LogAfter order st calls seen after

  none_passed : (order after : OrderState) → order ≡ after → ArePassed order [] [] after
  none_passed order after same =
      record {
        counts = λ rest. ap (λ o. top_enters shape o rest) same;
        logs = λ st.
            record {
              log = st;
              knows = refl;
              same = λ number rest. ap (λ o. log_before shape o st number rest) same;
            };
      }

  one_passed : (call : HookCall) (order next : OrderState) → enters_at_top order call ≡ false
      → ordered_step shape order call ≡ Some next → ArePassed order (call ∷ []) (call_observations shape call) next
  one_passed call order next not_top step =
      record {
        counts = λ rest.
            ap (λ b. cond b (suc (counted rest (ordered_step shape order call))) (counted rest (ordered_step shape order call)))
            not_top
            ∙ ap (counted rest) step;
        logs = λ st.
            record {
              log = log_after_call shape st call;
              knows = known_after_call shape st call;
              same = λ number rest.
                  ap
                  (λ b. by_enter b number (Some st) (λ k. logged st k rest (ordered_step shape order call))) not_top
                  ∙ ap (logged st number rest) step;
            };
      }
    where
      counted : List HookCall → Option OrderState → ℕ
      counted rest o = unwrap_or (option_map (λ next. top_enters shape next rest) o) 0

      logged : LogState → ℕ → List HookCall → Option OrderState → Option LogState
      logged st number rest o =
          option_and_then (λ next. log_before shape next (log_after_call shape st call) number rest) o

  both_passed : (a b : List HookCall) (first second : List Observation) (order middle after : OrderState)
      → ArePassed order a first middle → ArePassed middle b second after
      → ArePassed order (a ++ b) (first ++ second) after
  both_passed a b first second order middle after x y =
      record {
        counts = λ rest.
            ap (top_enters shape order) (append_assoc a b rest) ∙ x.counts (b ++ rest) ∙ y.counts rest;
        logs = λ st.
            let p = x.logs st in
            let q = y.logs p.log in
            record {
              log = q.log;
              knows =
                  q.knows ∙ ap (λ known. known_after_all known second) p.knows
                  ∙ sym (known_after_both st.known first second);
              same = λ number rest.
                  ap (log_before shape order st number) (append_assoc a b rest)
                  ∙ p.same number (b ++ rest) ∙ q.same number rest;
            };
      }

  -- hook calls in order, of which none reports that a function is entered
  pub ordered_passed : (calls : List HookCall) (order after : OrderState) → AllByRecursion IsNoEnter calls
      → AreOrdered shape order calls after → ArePassed order calls (observations_of_calls shape calls) after
  ordered_passed [] order after none h = none_passed order after h
  ordered_passed (call ∷ calls) order after none h =
      both_passed (call ∷ []) calls (call_observations shape call) (observations_of_calls shape calls) order h.0 after
      (one_passed call order h.0 (ap (λ b. b && none_open order.frames) none.0) h.1)
      (ordered_passed calls h.0 after none.1 h.2)

-- ---- the hook calls of a run's entries

module _ (m : Module) (shape : HookedShape) where
  -- hook calls of the original's run observe nothing, and are passed over
  abbrev pub Passes : OrderState → List HookCall → OrderState → Type 0
  Passes order calls after = ArePassed shape order (renumbered m calls) [] after

  pub nothing_passes : (order : OrderState) → Passes order [] order
  nothing_passes order = none_passed shape order order refl

  pub both_pass : (a b : List HookCall) (order middle after : OrderState) → Passes order a middle
      → Passes middle b after → Passes order (a ++ b) after
  both_pass a b order middle after x y =
      subst (λ calls. ArePassed shape order calls [] after) (sym (renumbered_both m a b))
      (both_passed shape (renumbered m a) (renumbered m b) [] [] order middle after x y)

  values_none : (view : Store) (values : List Val) → AllByRecursion IsNoEnter (renumbered m (reported_values view values))
  values_none view [] = tt
  values_none view (value ∷ values) = (refl, values_none view values)

  values_unseen : (view : Store) (values : List Val)
      → observations_of_calls shape (renumbered m (reported_values view values)) ≡ []
  values_unseen view [] = refl
  values_unseen view (value ∷ values) = values_unseen view values

  pub values_pass : (view : Store) (values : List Val) (order after : OrderState)
      → AreOrdered shape order (renumbered m (reported_values view values)) after
      → Passes order (reported_values view values) after
  values_pass view values order after h =
      subst (λ seen. ArePassed shape order (renumbered m (reported_values view values)) seen after)
      (values_unseen view values)
      (ordered_passed shape (renumbered m (reported_values view values)) order after (values_none view values) h)

module _ (m : Module) (shape : HookedShape) (hooked : IsHooked m shape) where
  -- a function is entered where something is open
  pub enter_passes : (func : ℕ) (args : List Val) (levels : List Level) (entries : ℕ) (view : Store)
      → imported_funcs m ≤ func → func < func_count m → IsTypedFor m shape func (λ ty. ty.params) args
      → may_enter shape func (order_frames levels) ≡ true → none_open (order_frames levels) ≡ false
      → Passes m shape (state levels [] entries) (reported_enter func args view)
      (state (AtFunction func ∷ with_top_entered levels) [] entries)
  enter_passes func args levels entries view own below typed may some =
      let step = orders.enter_step m shape hooked func args levels entries view own below typed may in
      both_pass m shape (reported_values view args) (reported_number Enter func view) (state levels [] entries)
      (state levels args entries) (state (AtFunction func ∷ with_top_entered levels) [] entries)
      (values_pass m shape view args (state levels [] entries) (state levels args entries)
      (orders.params_ordered m shape hooked func args levels entries view typed))
      (subst (λ o. Passes m shape (state levels args entries) (reported_number Enter func view) o) step.2
      (one_passed shape _ (state levels args entries) step.0 some step.1))

  pub leave_passes : (func : ℕ) (levels : List Level) (entries : ℕ) (view : Store)
      → Passes m shape (state (AtFunction func ∷ levels) [] entries) (reported_number Leave func view)
      (state levels [] entries)
  leave_passes func levels entries view =
      ordered_passed shape (renumbered m (reported_number Leave func view)) (state (AtFunction func ∷ levels) [] entries)
      (state levels [] entries) (refl, tt) (orders.leave_ordered m shape hooked func levels entries view)

  pub over_passes : (direct : Bool) (callee : ℕ) (entered : Bool) (args results : List Val) (levels : List Level)
      (entries : ℕ) (view : Store) → (nat_lt callee (imported_funcs m) || entered) ≡ true
      → IsTypedFor m shape callee (λ ty. ty.results) results
      → Passes m shape (state (AtCall direct callee entered args ∷ levels) [] entries)
      (reported_values view results ++ reported_over (cond direct (Some callee) None) view) (state levels [] entries)
  over_passes direct callee entered args results levels entries view may typed =
      both_pass m shape (reported_values view results) (reported_over (cond direct (Some callee) None) view)
      (state (AtCall direct callee entered args ∷ levels) [] entries)
      (state (AtCall direct callee entered args ∷ levels) results entries) (state levels [] entries)
      (values_pass m shape view results (state (AtCall direct callee entered args ∷ levels) [] entries)
      (state (AtCall direct callee entered args ∷ levels) results entries)
      (orders.results_ordered m shape hooked callee results (AtCall direct callee entered args ∷ levels) entries view
      typed))
      (go direct (orders.over_step m shape hooked direct callee entered args results levels entries view may typed))
    where
      go : (direct : Bool)
          → AreOrdered shape (state (AtCall direct callee entered args ∷ levels) results entries)
          (renumbered m (reported_over (cond direct (Some callee) None) view)) (state levels [] entries)
          → Passes m shape (state (AtCall direct callee entered args ∷ levels) results entries)
          (reported_over (cond direct (Some callee) None) view) (state levels [] entries)
      go true h =
          ordered_passed shape (renumbered m (reported_over (Some callee) view))
          (state (AtCall true callee entered args ∷ levels) results entries) (state levels [] entries) (refl, tt) h
      go false h =
          ordered_passed shape (renumbered m (reported_over None view))
          (state (AtCall false callee entered args ∷ levels) results entries) (state levels [] entries) (refl, tt) h
