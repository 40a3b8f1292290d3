-- The size that the log noticed is the one that observations find: what that is, for observations and for hook calls.
use Rattle.std.proofs.Common.{◌≡◌, ℕ, List, [], ◌∷◌, ◌++◌, Option, Some, None, Bool, true, false, cond, slice_get, refl, sym, ap, ◌∙◌, subst}
use Rattle.std.specs.Prelude.{IfSome}
use Rattle.std.specs.List.{AllByRecursion}
use Rattle.wasm_syntax.specs.declared.values.Val.{Val}
use Rattle.wasm_syntax.specs.declared.signatures.GlobalType.{GlobalType}
use Rattle.wasm_syntax.specs.declared.modules.Module.{Module}
use Rattle.wasm_syntax.specs.Index.{imported_funcs, all_globals}
use Rattle.history_spec.specs.Store.{Store}
use Rattle.record_replay_spec.specs.Observations.{Observation, Begins, Ends, Reaches, Resizes, ReadsEntry, ReadsGlobal}
use Rattle.record_replay_spec.specs.Known.{Known, pages_of, known_after}
use Rattle.record_replay_spec.specs.Changes.{with_change}
use Rattle.record_replay_spec.specs.declared.hooks.Hook.TheVariants.{Enter, Leave}
use Rattle.record_replay_spec.specs.Hooks.{HookCall, renumbered_call}
use Rattle.record_replay_spec.specs.Logs.{LogState, call_observations, log_after, log_after_all, log_after_call, notices_size}
use Rattle.record_replay_spec.specs.Order.{HookedShape}
use Rattle.record_replay_spec.specs.ReportedCalls.{reported_values, reported_number, reported_enter, reported_over}
use Rattle.tape_laws.specs.LogMeaning.{size_found, log_after_calls}
use Rattle.tape_laws.specs.ReportedObservations.{is_mutable, reported_observation, reported_observations}
use Rattle.tape_laws.proofs.CallObservations.{seen_by}
use Rattle.tape_laws.proofs.CallLogs.{noticing}
use Rattle.tape_laws.proofs.CallOrder as orders
use Rattle.tape_laws.proofs.CallOrder.{renumbered}
use Rattle.tape_laws.proofs.ItemEvents.{Keeps}
use Rattle.tape_laws.proofs.Items.{pages_there}
use Rattle.tape_laws.proofs.ItemSteps.{keeps_after, after_both}
use Rattle.tape_laws.proofs.Relation.{IsSeen, AreSeen}
use Rattle.tape_laws.proofs.Trails.{IsOfCore, AreReportable}

-- ---- observations

-- each observation that is of the memory's size finds the size that was noticed before it
abbrev pub FindNoticed : LogState → List Observation → Type 0
FindNoticed st [] = Unit {0}
FindNoticed st (o ∷ later) =
    IfSome (size_found o) (λ found. st.noticed ≡ found) × FindNoticed (log_after st o) later

both_find : (st : LogState) (first second : List Observation) → FindNoticed st first
    → FindNoticed (log_after_all st first) second → FindNoticed st (first ++ second)
both_find st [] second h q = q
both_find st (o ∷ first) second h q = (h.0, both_find (log_after st o) first second h.1 q)

parts_find : (st : LogState) (first second : List Observation) → FindNoticed st (first ++ second)
    → FindNoticed st first × FindNoticed (log_after_all st first) second
parts_find st [] second h = (tt, h)
parts_find st (o ∷ first) second h =
    let p = parts_find (log_after st o) first second h.1 in ((h.0, p.0), p.1)

module _ (n : ℕ) (globals : List GlobalType) (size : ℕ) where
  -- what hooks report of an observation finds the size of the store, which the log noticed
  item_finds : (known : Known) (store : Store) (st : LogState) → Keeps n globals known store st size
      → (o : Observation) → IsSeen known store o → FindNoticed st (reported_observation n globals o)
  item_finds known store st kept (Begins origin) seen = tt
  item_finds known store st kept (Ends next) seen = tt
  item_finds known store st kept (Reaches «end» found) seen = (kept.real ∙ seen.found, tt)
  item_finds known store st kept (Resizes found left) seen =
      (kept.real ∙ pages_there store.memory found seen.here seen.answers, tt)
  item_finds known store st kept (ReadsEntry index func) seen = (tt, tt)
  item_finds known store st kept (ReadsGlobal x value) seen = by (is_mutable (slice_get globals x))
    where
      by : (b : Bool) → FindNoticed st (cond b (ReadsGlobal x value ∷ []) [])
      by true = (tt, tt)
      by false = tt
  item_finds known store st kept o seen = (tt, tt)

  pub items_find : (known : Known) (store : Store) (st : LogState) (items : List Observation)
      → Keeps n globals known store st size → AreSeen known store items → AllByRecursion IsOfCore items
      → FindNoticed st (reported_observations n globals items)
  items_find known store st [] kept are core = tt
  items_find known store st (o ∷ items) kept are core =
      both_find st (reported_observation n globals o) (reported_observations n globals items)
      (item_finds known store st kept o are.0)
      (items_find (known_after known o) (with_change store o) (log_after_all st (reported_observation n globals o)) items
      (keeps_after n globals size known store st kept o are.0 core.0) are.1 core.1)

-- ---- hook calls

module _ (shape : HookedShape) where
  -- the observations of each call find the size that was noticed before them
  abbrev pub CallsFind : LogState → List HookCall → Type 0
  CallsFind st [] = Unit {0}
  CallsFind st (call ∷ calls) =
      FindNoticed st (call_observations shape call) × CallsFind (log_after_call shape st call) calls

  pub calls_parts : (st : LogState) (first second : List HookCall) → CallsFind st (first ++ second)
      → CallsFind st first × CallsFind (log_after_calls shape st first) second
  calls_parts st [] second h = (tt, h)
  calls_parts st (call ∷ first) second h =
      let p = calls_parts (log_after_call shape st call) first second h.1 in ((h.0, p.0), p.1)

  -- the observations of calls find the size that was noticed, and the calls lead to another state of the log
  pub record CallsLead (st : LogState) (calls : List HookCall) (next : LogState) : Type 0 where
    pub find : CallsFind st calls
    pub leads : log_after_calls shape st calls ≡ next

  calls_both : (st : LogState) (first second : List HookCall) → CallsFind st first
      → CallsFind (log_after_calls shape st first) second → CallsFind st (first ++ second)
  calls_both st [] second h q = q
  calls_both st (call ∷ first) second h q = (h.0, calls_both (log_after_call shape st call) first second h.1 q)

  pub after_calls_both : (st : LogState) (first second : List HookCall)
      → log_after_calls shape st (first ++ second) ≡ log_after_calls shape (log_after_calls shape st first) second
  after_calls_both st [] second = refl
  after_calls_both st (call ∷ first) second = after_calls_both (log_after_call shape st call) first second

  lead_find : (st now : LogState) (first second : List HookCall) → CallsLead st first now → CallsFind now second
      → CallsFind st (first ++ second)
  lead_find st now first second x h =
      calls_both st first second x.find (subst (λ s. CallsFind s second) (sym x.leads) h)

  both_lead : (st now next : LogState) (first second : List HookCall) → CallsLead st first now
      → CallsLead now second next → CallsLead st (first ++ second) next
  both_lead st now next first second x y =
      record {
        find = lead_find st now first second x y.find;
        leads =
            after_calls_both st first second ∙ ap (λ s. log_after_calls shape s second) x.leads ∙ y.leads;
      }

-- calls as the original's run reports them
module _ (m : Module) (shape : HookedShape) where
  abbrev n : ℕ
  n = imported_funcs m

  abbrev pub Finds : LogState → List HookCall → Type 0
  Finds st calls = CallsFind shape st (renumbered m calls)

  abbrev pub Leads : LogState → List HookCall → LogState → Type 0
  Leads st calls next = CallsLead shape st (renumbered m calls) next

  pub then_find : (st now : LogState) (first rest : List HookCall) → Leads st first now → Finds now rest
      → Finds st (first ++ rest)
  then_find st now first rest x h =
      subst (CallsFind shape st) (sym (orders.renumbered_both m first rest))
      (lead_find shape st now (renumbered m first) (renumbered m rest) x h)

  pub then_lead : (st now next : LogState) (first rest : List HookCall) → Leads st first now → Leads now rest next
      → Leads st (first ++ rest) next
  then_lead st now next first rest x y =
      subst (λ l. CallsLead shape st l next) (sym (orders.renumbered_both m first rest))
      (both_lead shape st now next (renumbered m first) (renumbered m rest) x y)

  -- ---- calls that notice no size

  abbrev pub AreQuiet : List HookCall → Type 0
  AreQuiet = AllByRecursion (λ (call : HookCall). notices_size call.kind ≡ false)

  pub reportable_quiet : (calls : List HookCall) → AreReportable m shape calls → AreQuiet calls
  reportable_quiet [] h = tt
  reportable_quiet (call ∷ calls) h = (h.0.quiet, reportable_quiet calls h.1)

  pub quiet_lead : (st : LogState) (calls : List HookCall) → AreQuiet calls
      → FindNoticed st (seen_by shape n (all_globals m) calls)
      → Leads st calls (log_after_all st (seen_by shape n (all_globals m) calls))
  quiet_lead st [] quiet h = record { find = tt; leads = refl }
  quiet_lead st (call ∷ calls) quiet h =
      let p = parts_find st obs later h in
      let rest = quiet_lead (log_after_all st obs) calls quiet.1 p.1 in
      record {
        find = (p.0, subst (λ s. Finds s calls) (sym state_is) rest.find);
        leads =
            ap (λ s. log_after_calls shape s (renumbered m calls)) state_is ∙ rest.leads ∙ sym (after_both st obs later);
      }
    where
      obs : List Observation
      obs = call_observations shape (renumbered_call n call)

      later : List Observation
      later = seen_by shape n (all_globals m) calls

      state_is : log_after_call shape st (renumbered_call n call) ≡ log_after_all st obs
      state_is =
          ap
          (λ b. cond b (record (log_after_all st obs) { noticed = pages_of call.view.memory }) (log_after_all st obs))
          quiet.0

  -- ---- calls by which control comes to the module, or leaves it

  values_lead : (st : LogState) (view : Store) (values : List Val) → Leads st (reported_values view values) st
  values_lead st view [] = record { find = tt; leads = refl }
  values_lead st view (value ∷ values) =
      let rest = values_lead st view values in record { find = (tt, rest.find); leads = rest.leads }

  pub enter_leads : (st : LogState) (view : Store) (func : ℕ) (args : List Val)
      → Leads st (reported_enter func args view) (noticing view st)
  enter_leads st view func args =
      then_lead st st (noticing view st) (reported_values view args) (reported_number Enter func view)
      (values_lead st view args) (record { find = (tt, tt); leads = refl })

  pub leave_leads : (st : LogState) (view : Store) (func : ℕ) → Leads st (reported_number Leave func view) st
  leave_leads st view func = record { find = (tt, tt); leads = refl }

  pub over_leads : (st : LogState) (view : Store) (callee : Option ℕ) (results : List Val)
      → Leads st (reported_values view results ++ reported_over callee view) (noticing view st)
  over_leads st view callee results =
      then_lead st st (noticing view st) (reported_values view results) (reported_over callee view)
      (values_lead st view results) (go callee)
    where
      go : (callee : Option ℕ) → Leads st (reported_over callee view) (noticing view st)
      go (Some func) = record { find = (tt, tt); leads = refl }
      go None = record { find = (tt, tt); leads = refl }
