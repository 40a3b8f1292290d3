-- The hook calls of a whole trail report the top-level calls of its entries, and before each of them the log knows what
-- is known.
use Rattle.std.proofs.Common.{◌≡◌, ℕ, ◌-◌, List, [], ◌∷◌, ◌++◌, length, take, map, Option, Some, None, Bool, true, false, nat_lt, refl, sym, ap, ◌∙◌, subst, inl}
use Rattle.std.specs.List.{AllByRecursion}
use Rattle.std.proofs.lemmas.List.{append-nil}
use Rattle.wasm_syntax.specs.declared.values.Val.{Val}
use Rattle.wasm_syntax.specs.declared.modules.Module.{Module}
use Rattle.wasm_syntax.specs.declared.instructions.Instr.{Instr}
use Rattle.wasm_syntax.specs.Index.{imported_funcs, all_globals}
use Rattle.base.specs.declared.outcomes.Outcome.{Outcome}
use Rattle.base.specs.declared.outcomes.Outcome.TheVariants.{Ended, Trapped, HostTrapped}
use Rattle.history_spec.specs.declared.entries.Entry.{Entry}
use Rattle.history_spec.specs.declared.entries.Entry.TheVariants.{HostCall, HostReturn, ImportCall, ImportReturn, Enter, Exit, Step, Trap, HostTrap}
use Rattle.history_spec.specs.declared.entries.TrapKind.{TrapKind}
use Rattle.history_spec.specs.Instruction.{bits_at}
use Rattle.history_spec.specs.Store.{Store}
use Rattle.record_replay_spec.specs.Known.{Known, entry_of, pages_of, known_after, known_after_all}
use Rattle.record_replay_spec.specs.Observations.{Observation, Begins, Ends}
use Rattle.record_replay_spec.specs.Changes.{with_change, with_changes}
use Rattle.record_replay_spec.specs.declared.hooks.Hook.{Hook}
use Rattle.record_replay_spec.specs.declared.hooks.Hook.TheVariants.{Enter as ToEnter, Pre, Ipre}
use Rattle.record_replay_spec.specs.Hooks.{HookCall}
use Rattle.record_replay_spec.specs.Logs.{LogState, notices_size, log_after_all}
use Rattle.record_replay_spec.specs.Order.{HookedShape, OrderState}
use Rattle.record_replay_spec.specs.ReportedCalls.{Moment, reported_calls, reported_number, reported_by_step, reported_by_trap, waiting_after_step}
use Rattle.rest_spec.specs.Rests.{calls_in}
use Rattle.rest_spec.specs.AtCalls.{at_call}
use Rattle.rest_spec.specs.TopEnters.{is_enter}
use Rattle.tape_laws.proofs.Agrees.{IsOfStore}
use Rattle.tape_laws.proofs.BalancedCalls.{open_imports}
use Rattle.tape_laws.proofs.CallObservations.{seen_by, as_reported}
use Rattle.tape_laws.proofs.CallOrder as orders
use Rattle.tape_laws.proofs.CallOrder.{IsHooked, renumbered, state, AreOrdered}
use Rattle.tape_laws.proofs.EachMoment.{holds_for}
use Rattle.tape_laws.proofs.ItemEvents.{Keeps}
use Rattle.tape_laws.proofs.ItemSteps.{keeps_after_all}
use Rattle.tape_laws.proofs.ObservedFinds.{IsReportedKnown}
use Rattle.tape_laws.proofs.Relation.{AreSeen}
use Rattle.tape_laws.proofs.TrailOrder.{calls_at}
use Rattle.tape_laws.proofs.Trails.{Level, AtFunction, AtCall, call_level, waiting_calls, at_host, IsOfCore, AreReportable, Leads, Stays, Direct, Indirect, ReportsTrap, Quiet, AtEntry, IsTrailEnd}
use Rattle.tape_laws.proofs.KnownAfterCalls.{known_after_seen}
use Rattle.rest_laws.proofs.PassedCalls.{IsNoEnter, ArePassed, ordered_passed}
use Rattle.rest_laws.proofs.Places.{call_after, call_from, passed}
use Rattle.rest_laws.proofs.TopEntries as entries
use Rattle.rest_laws.proofs.TopEntries.{Knows, KnowsAt, ReportsAt, Rest, FirstReports}
use Rattle.rest_laws.proofs.TopSearch.{Finds, finds_same, nothing_found, finds_after, Reports, call_opens, call_within, finds_called}

-- what a step sees is of the store
seen_of_store : (known : Known) (store : Store) (items : List Observation) → AreSeen known store items
    → AllByRecursion IsOfStore items
seen_of_store known store [] are = tt
seen_of_store known store (Begins origin ∷ items) are = absurd are.0.here
seen_of_store known store (Ends next ∷ items) are = absurd are.0.here
seen_of_store known store (o ∷ items) are =
    (tt, seen_of_store (known_after known o) (with_change store o) items are.1)

-- a hook that notices no size reports no function that is entered
no_enter : (kind : Hook) → notices_size kind ≡ false → is_enter kind ≡ false
no_enter ToEnter h = h
no_enter kind h = refl

module _ (m : Module) (shape : HookedShape) where
  reportable_none : (calls : List HookCall) → AreReportable m shape calls → AllByRecursion IsNoEnter (renumbered m calls)
  reportable_none [] h = tt
  reportable_none (call ∷ calls) h = (no_enter call.kind h.0.quiet, reportable_none calls h.1)

module _ (m : Module) (shape : HookedShape) (hooked : IsHooked m shape) (outcome : Option Outcome) where
  abbrev n : ℕ
  n = imported_funcs m

  abbrev seen : List HookCall → List Observation
  seen calls = seen_by shape n (all_globals m) calls

  abbrev reported : List Observation → List Observation
  reported items = as_reported shape n (all_globals m) items

  abbrev opened : List Level → ℕ
  opened levels = open_imports n levels

  -- the search of observations finds no call in those of the store alone
  none_of_store : (number opened : ℕ) (known : Known) (store : Store) (items : List Observation)
      → AreSeen known store items → at_call number opened known items ≡ None
  none_of_store number opened known store items are =
      ap (at_call number opened known) (sym (append-nil items))
      ∙ passed number opened known items [] (seen_of_store known store items are)

  -- ---- an instruction is executed

  -- what the log knows after a step
  knows_next : (known : Known) (store : Store) (st next : LogState) (items : List Observation)
      → AreSeen known store items → AllByRecursion IsOfCore items
      → next.known ≡ known_after_all st.known (reported items) → Knows m shape outcome known store st
      → Knows m shape outcome (known_after_all known items) (with_changes store items) next
  knows_next known store st next items are core e h =
      record {
        reported =
            subst (IsReportedKnown n (known_after_all known items))
            (known_after_seen real (reported items) ∙ sym e) kept.reported;
        immutable = kept.immutable;
      }
    where
      -- a log that knows the same, and the real size of the memory
      real : LogState
      real = record { known = st.known; noticed = pages_of store.memory }

      kept : Keeps n (all_globals m) (known_after_all known items) (with_changes store items)
          (log_after_all real (reported items)) (pages_of store.memory)
      kept =
          keeps_after_all n (all_globals m) (hooked.indices.of_renumbered n) (pages_of store.memory) known store real items
          (record { reported = h.reported; immutable = h.immutable; real = refl; size_reported = inl refl }) are core

  stepped : (func number : ℕ) (operands results : List Val) (found : Option ℕ)
      → FirstReports m shape outcome (Step func number operands results found)
  stepped func number operands results found later moment levels known store left st h knows rest =
      subst (λ l. Reports m shape l known left st now) (sym h.stands)
      (go (subst (λ l. Leads m shape l h.after known h.items moment operands results) h.stands h.leads))
    where
      now : List Moment
      now = record moment { entry = Step func number operands results found } ∷ later

      top : List Level
      top = AtFunction func ∷ h.below

      known_next : Known
      known_next = known_after_all known h.items

      calls : List HookCall
      calls = reported_by_step (all_globals m) moment.instr operands results moment

      count : ℕ
      count = calls_in (map (λ (moment : Moment). moment.entry) later) (opened (AtFunction func ∷ h.below))

      here : Knows m shape outcome known moment.before st
      here = subst (λ s. Knows m shape outcome known s st) (sym h.begins) knows

      -- what follows, from a state of the log after the step on
      follows : (next : LogState) → next.known ≡ known_after_all st.known (seen calls)
          → Reports m shape h.after known_next h.later next later
      follows next e =
          rest h.after known_next moment.after h.later next h.follows
          (subst (λ s. Knows m shape outcome known_next s next) (sym h.changed)
          (knows_next known moment.before st next h.items h.are h.core (e ∙ ap (known_after_all st.known) h.observes)
          here))

      -- the step leads to these levels for the order, and the search goes on as in the function
      Follows : (next : List Level) (entries : ℕ) → LogState → Type 0
      Follows next entries log =
          Finds m shape (state next [] entries) log (renumbered m (calls_at m next later)) count
          (λ number. at_call number (opened (AtFunction func ∷ h.below)) known_next h.later)

      after : (next : List Level) (entries : ℕ)
          → waiting_after_step moment.instr operands (waiting_calls top) ≡ waiting_calls next
          → (passes : ArePassed shape (state top [] known.entries) (renumbered m calls) (seen calls) (state next [] entries))
          → Follows next entries (passes.logs st).log → Reports m shape top known left st now
      after next entries waits passes f =
          subst
          (λ w. Finds m shape (state top [] known.entries) st
          (renumbered m (calls ++ reported_calls (all_globals m) w later)) count
          (λ number. at_call number (opened top) known left))
          (sym waits)
          (finds_same m shape (state top [] known.entries) st (renumbered m (calls ++ calls_at m next later)) count count
          (λ number. at_call number (opened top) known_next h.later) (λ number. at_call number (opened top) known left)
          refl
          (λ number.
          ap (at_call number (opened top) known) h.observed
          ∙ passed number (opened top) known h.items h.later (seen_of_store known moment.before h.items h.are))
          (finds_after m shape (state top [] known.entries) (state next [] entries) st calls (calls_at m next later)
          (seen calls) count (λ number. at_call number (opened top) known_next h.later) passes f))

      -- what follows a call
      called : (direct : Bool) (callee : ℕ) (args : List Val) (entries : ℕ) (log : LogState)
          → log.known ≡ known_after_all st.known (seen calls)
          → h.after ≡ call_level (nat_lt callee n) direct callee args ∷ top → known_next.entries ≡ entries
          → Follows (AtCall direct callee false args ∷ top) entries log
      called direct callee args entries log e same entries_are =
          finds_called m shape (nat_lt callee n) direct callee args top entries log later count
          (λ number. at_call number (opened top) known_next h.later)
          (finds_same m shape (state (call_level (nat_lt callee n) direct callee args ∷ top) [] entries) log
          (renumbered m (calls_at m (call_level (nat_lt callee n) direct callee args ∷ top) later))
          (calls_in (map (λ (moment : Moment). moment.entry) later)
          (opened (call_level (nat_lt callee n) direct callee args ∷ top)))
          count
          (λ number. call_from (at_host n (call_level (nat_lt callee n) direct callee args ∷ top)) number
          (opened (call_level (nat_lt callee n) direct callee args ∷ top)) known_next h.later)
          (λ number. at_call number (opened top) known_next h.later)
          (ap (calls_in (map (λ (moment : Moment). moment.entry) later))
          (call_opens m shape (nat_lt callee n) direct callee args top refl))
          (λ number.
          sym
          (ap
          (λ o. call_from (at_host n (call_level (nat_lt callee n) direct callee args ∷ top)) number o known_next h.later)
          (call_opens m shape (nat_lt callee n) direct callee args top refl)
          ∙ ap (λ b. call_from b number (opened top) known_next h.later)
          (call_within m shape (nat_lt callee n) direct callee args top refl)))
          (subst
          (λ e. Finds m shape (state (call_level (nat_lt callee n) direct callee args ∷ top) [] e) log
          (renumbered m (calls_at m (call_level (nat_lt callee n) direct callee args ∷ top) later))
          (calls_in (map (λ (moment : Moment). moment.entry) later)
          (opened (call_level (nat_lt callee n) direct callee args ∷ top)))
          (λ number. call_from (at_host n (call_level (nat_lt callee n) direct callee args ∷ top)) number
          (opened (call_level (nat_lt callee n) direct callee args ∷ top)) known_next h.later))
          entries_are
          (subst (λ l. Reports m shape l known_next h.later log later) same (follows log e))))

      index : ℕ
      index = bits_at operands (length operands - 1)

      args : List Val
      args = take (length operands - 1) operands

      -- the hook calls of a step with this instruction are passed over
      StepPasses : List Level → ℕ → Option Instr → Type 0
      StepPasses next entries instr =
          ArePassed shape (state (AtFunction func ∷ h.below) [] known.entries)
          (renumbered m (reported_by_step (all_globals m) instr operands results moment))
          (seen (reported_by_step (all_globals m) instr operands results moment)) (state next [] entries)

      go : Leads m shape (AtFunction func ∷ h.below) h.after known h.items moment operands results
          → Reports m shape (AtFunction func ∷ h.below) known left st
          (record moment { entry = Step func number operands results found } ∷ later)
      go (Stays same waits reportable entries) =
          let passes : StepPasses top known.entries moment.instr =
          ordered_passed shape (renumbered m calls) (state top [] known.entries) (state top [] known.entries)
          (reportable_none m shape calls reportable)
          (orders.reportable_ordered m shape hooked calls (state top [] known.entries) refl reportable)
          in
          after top known.entries (waits (waiting_calls top)) passes
          (subst
          (λ e. Finds m shape (state top [] e) (passes.logs st).log (renumbered m (calls_at m top later)) count
          (λ number. at_call number (opened top) known_next h.later))
          entries
          (subst (λ l. Reports m shape l known_next h.later (passes.logs st).log later) same
          (follows (passes.logs st).log (passes.logs st).knows)))
      go (Direct callee is same there none) =
          let passes : StepPasses (AtCall true callee false operands ∷ top) known.entries moment.instr =
          subst (StepPasses (AtCall true callee false operands ∷ top) known.entries) (sym is)
          (ordered_passed shape (renumbered m (reported_number Pre callee moment.before ++ []))
          (state top [] known.entries) (state (AtCall true callee false operands ∷ top) [] known.entries) (refl, tt)
          (orders.pre_ordered m shape hooked callee func operands h.below known.entries moment.before there))
          in
          after (AtCall true callee false operands ∷ top) known.entries
          (ap (λ i. waiting_after_step i operands (waiting_calls top)) is) passes
          (called true callee operands known.entries (passes.logs st).log (passes.logs st).knows same
          (ap (λ l. (known_after_all known l).entries) none))
      go (Indirect t callee is same there entry entries) =
          let passes : StepPasses (AtCall false callee false args ∷ top) known_next.entries moment.instr =
          subst (StepPasses (AtCall false callee false args ∷ top) known_next.entries) (sym is)
          (ordered_passed shape (renumbered m (reported_number Ipre index moment.before))
          (state top [] known.entries) (state (AtCall false callee false args ∷ top) [] known_next.entries) (refl, tt)
          (subst
          (λ e. AreOrdered shape (state top [] known.entries) (renumbered m (reported_number Ipre index moment.before))
          (state (AtCall false callee false args ∷ top) [] e))
          (sym entries)
          (orders.ipre_ordered m shape hooked func index h.below known.entries moment.before (Some callee)
          h.of.entries entry there)))
          in
          after (AtCall false callee false args ∷ top) known_next.entries
          (ap (λ i. waiting_after_step i operands (waiting_calls top)) is) passes
          (called false callee args known_next.entries (passes.logs st).log (passes.logs st).knows same refl)

  -- ---- the run is over

  trapped : (func number : ℕ) (kind : TrapKind) (operands : List Val) (found : Option ℕ)
      → FirstReports m shape outcome (Trap func number kind operands found)
  trapped func number kind operands found later moment levels known store left st h knows rest =
      subst (λ l. Reports m shape l known left st (now later)) (sym h.stands)
      (subst (λ l. Reports m shape (AtFunction func ∷ h.below) known left st (now l)) (sym h.last) (go h.reports))
    where
      top : List Level
      top = AtFunction func ∷ h.below

      now : List Moment → List Moment
      now l = record moment { entry = Trap func number kind operands found } ∷ l

      index : ℕ
      index = bits_at operands (length operands - 1)

      callee : Option ℕ
      callee = entry_of moment.before.table (bits_at operands (length operands - 1))

      IsOver : List HookCall → Type 0
      IsOver calls =
          Finds m shape (state (AtFunction func ∷ h.below) [] known.entries) st (renumbered m (calls ++ [])) 0
          (λ number. at_call number (opened (AtFunction func ∷ h.below)) known left)

      ends : (after : OrderState) (calls : List HookCall)
          → ArePassed shape (state (AtFunction func ∷ h.below) [] known.entries) (renumbered m calls) (seen calls) after
          → IsOver calls
      ends after calls passes =
          finds_after m shape (state top [] known.entries) after st calls [] (seen calls) 0
          (λ number. at_call number (opened top) known left) passes
          (nothing_found m shape after (passes.logs st).log (λ number. at_call number (opened top) known left)
          (λ number. none_of_store number (opened top) known moment.before left h.are))

      go : ReportsTrap m shape moment operands
          → Reports m shape (AtFunction func ∷ h.below) known left st
          (record moment { entry = Trap func number kind operands found } ∷ [])
      go (Quiet reportable) =
          ends (state top [] known.entries) (reported_by_trap moment.instr operands moment)
          (ordered_passed shape (renumbered m (reported_by_trap moment.instr operands moment))
          (state top [] known.entries) (state top [] known.entries)
          (reportable_none m shape (reported_by_trap moment.instr operands moment) reportable)
          (orders.reportable_ordered m shape hooked (reported_by_trap moment.instr operands moment)
          (state top [] known.entries) refl reportable))
      go (AtEntry t is entry) =
          subst (λ i. IsOver (reported_by_trap i operands moment)) (sym is)
          (ends (orders.after_index m shape hooked func index h.below known.entries moment.before callee)
          (reported_number Ipre index moment.before)
          (ordered_passed shape (renumbered m (reported_number Ipre index moment.before)) (state top [] known.entries)
          (orders.after_index m shape hooked func index h.below known.entries moment.before callee) (refl, tt)
          (orders.ipre_ordered m shape hooked func index h.below known.entries moment.before callee h.of.entries refl
          entry)))

  host_trapped : FirstReports m shape outcome HostTrap
  host_trapped later moment levels known store left st h knows rest =
      subst (λ l. Reports m shape levels known left st (record moment { entry = HostTrap } ∷ l)) (sym h.last)
      (nothing_found m shape (state levels [] known.entries) st
      (λ number. call_from (at_host n levels) number (opened levels) known left)
      (λ number.
      ap (λ b. call_from b number (opened levels) known left) h.host
      ∙ ap (call_after number (opened levels) known) h.observed))

  -- ---- a whole trail

  at_entry : (entry : Entry) → FirstReports m shape outcome entry
  at_entry (HostCall func args) = entries.host_call m shape hooked outcome func args
  at_entry (Enter func) = entries.entered m shape hooked outcome func
  at_entry (HostReturn func results) = entries.host_return m shape hooked outcome func results
  at_entry (Exit func results) = entries.exited m shape hooked outcome func results
  at_entry (ImportCall import args) = entries.import_called m shape hooked outcome import args
  at_entry (ImportReturn import results) = entries.import_return m shape hooked outcome import results
  at_entry (Step func number operands results found) = stepped func number operands results found
  at_entry (Trap func number kind operands found) = trapped func number kind operands found
  at_entry HostTrap = host_trapped

  at_end : (o : Option Outcome) (levels : List Level) (known : Known) (left : List Observation) (st : LogState)
      → IsTrailEnd m shape levels left o → Reports m shape levels known left st []
  at_end None levels known left st h =
      nothing_found m shape (state levels [] known.entries) st
      (λ number. call_from (at_host n levels) number (opened levels) known left)
      (λ number.
      ap (call_from (at_host n levels) number (opened levels) known) h ∙ none (at_host n levels) number (opened levels))
    where
      none : (b : Bool) (number opened : ℕ) → call_from b number opened known [] ≡ None
      none true number opened = refl
      none false number opened = refl
  at_end (Some Ended) levels known left st h =
      subst (λ l. Reports m shape l known left st []) (sym h.0)
      (nothing_found m shape (state [] [] known.entries) st (λ number. call_after number 0 known left)
      (λ number. ap (call_after number 0 known) h.1))
  at_end (Some Trapped) levels known left st h = absurd h
  at_end (Some HostTrapped) levels known left st h = absurd h

  pub reports : (moments : List Moment) → Rest m shape outcome moments
  reports =
      holds_for m shape outcome (KnowsAt m shape outcome) (ReportsAt m shape outcome) at_entry
      (λ levels known store left st h knows. at_end outcome levels known left st h)
