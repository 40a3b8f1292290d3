-- Along a trail, the observations of hook calls find the size of the memory that the log noticed before them.
use Rattle.std.proofs.Common.{◌≡◌, ℕ, ◌-◌, List, ◌∷◌, ◌++◌, length, take, Option, Some, None, Bool, true, false, cond, nat_lt, slice_get, refl, sym, ap, ◌∙◌, subst, inl}
use Rattle.std.specs.List.{AllByRecursion}
use Rattle.wasm_syntax.specs.declared.values.Val.{Val}
use Rattle.wasm_syntax.specs.declared.modules.Module.{Module}
use Rattle.wasm_syntax.specs.Index.{imported_funcs, all_globals}
use Rattle.base.specs.declared.outcomes.Outcome.{Outcome}
use Rattle.history_spec.specs.declared.entries.Entry.{Entry}
use Rattle.history_spec.specs.declared.entries.Entry.TheVariants.{HostCall, HostReturn, ImportCall, ImportReturn, Enter, Exit, Step, Trap, HostTrap}
use Rattle.history_spec.specs.declared.entries.TrapKind.{TrapKind}
use Rattle.history_spec.specs.Store.{Store}
use Rattle.record_replay_spec.specs.Known.{Known, known_after_all}
use Rattle.record_replay_spec.specs.Changes.{with_changes}
use Rattle.record_replay_spec.specs.Observations.{Observation}
use Rattle.record_replay_spec.specs.declared.hooks.Hook.TheVariants as hooks
use Rattle.record_replay_spec.specs.Hooks.{HookCall}
use Rattle.record_replay_spec.specs.Logs.{LogState, log_after_all}
use Rattle.record_replay_spec.specs.Order.{HookedShape}
use Rattle.record_replay_spec.specs.ReportedCalls.{Moment, reported_calls, reported_number, reported_enter, reported_values, reported_over, reported_by_step, reported_by_trap, waiting_after_step}
use Rattle.tape_laws.proofs.CallLogs.{noticing}
use Rattle.tape_laws.proofs.CallObservations.{seen_by, as_reported}
use Rattle.tape_laws.proofs.CallOrder.{IsHooked}
use Rattle.tape_laws.proofs.EachMoment.{HoldsFor, HoldsFirst, holds_for}
use Rattle.tape_laws.proofs.FoundSizes as sizes
use Rattle.tape_laws.proofs.FoundSizes.{FindNoticed, Finds, Leads as LeadsTo, AreQuiet, then_find, then_lead}
use Rattle.tape_laws.proofs.ItemEvents.{Keeps}
use Rattle.tape_laws.proofs.ItemSteps.{keeps_after_all}
use Rattle.tape_laws.proofs.LogStands.{Stands, StandsAt, outside, stands_there, noticed_stands, outside_stands, stands_kept, kept_stands}
use Rattle.tape_laws.proofs.Relation.{AreSeen}
use Rattle.tape_laws.proofs.TrailOrder.{same_waiting, calls_at}
use Rattle.tape_laws.proofs.Trails.{Level, AtFunction, AtCall, call_level, waiting_calls, with_top_entered, IsOfCore, Leads, Stays, Direct, Indirect, ReportsTrap, Quiet, AtEntry}

module _ (m : Module) (shape : HookedShape) where
  -- the hook calls of these moments find the size that the log noticed
  abbrev pub FindsAt : List Level → Known → Store → List Observation → LogState → List Moment → Type 0
  FindsAt levels known store left st moments = Finds m shape st (calls_at m levels moments)

module _ (m : Module) (shape : HookedShape) (hooked : IsHooked m shape) (outcome : Option Outcome) where
  abbrev n : ℕ
  n = imported_funcs m

  abbrev reported : List Observation → List Observation
  reported items = as_reported shape n (all_globals m) items

  -- the hook calls of a first moment with this entry, and of those after it, find the size, if those after it do
  abbrev FirstFinds : Entry → Type 0
  FirstFinds entry = HoldsFirst m shape outcome (StandsAt m) (FindsAt m shape) entry

  -- ---- instructions

  module _ (func : ℕ) (below : List Level) (known : Known) (store : Store) (st : LogState) (items : List Observation)
      (are : AreSeen known store items) (core : AllByRecursion IsOfCore items)
      (stands : Stands m (AtFunction func ∷ below) known store st) where
    kept : Keeps n (all_globals m) known store st st.noticed
    kept = stands_kept m func below known store st st.noticed (inl refl) stands

    -- hook calls that observe what an instruction observes
    observed_lead : (calls : List HookCall) → AreQuiet m shape calls
        → seen_by shape n (all_globals m) calls ≡ reported items
        → LeadsTo m shape st calls (log_after_all st (reported items))
    observed_lead calls quiet observes =
        subst (λ l. LeadsTo m shape st calls (log_after_all st l)) observes
        (sizes.quiet_lead m shape st calls quiet
        (subst (FindNoticed st) (sym observes)
        (sizes.items_find n (all_globals m) st.noticed known store st items kept are core)))

    observed_stands : (after : List Level) (view : Store) → view ≡ with_changes store items
        → Stands m after (known_after_all known items) view (log_after_all st (reported items))
    observed_stands after view changed =
        kept_stands m after (known_after_all known items) (with_changes store items) view
        (log_after_all st (reported items)) st.noticed changed
        (keeps_after_all n (all_globals m) (hooked.indices.of_renumbered n) st.noticed known store st items kept are core)

  called_waiting : (imported direct : Bool) (callee : ℕ) (args : List Val) (levels : List Level)
      → waiting_calls (AtCall direct callee false args ∷ levels)
      ≡ waiting_calls (call_level imported direct callee args ∷ levels)
  called_waiting true direct callee args levels = refl
  called_waiting false direct callee args levels = refl

  stepped : (func number : ℕ) (operands results : List Val) (found : Option ℕ)
      → FirstFinds (Step func number operands results found)
  stepped func number operands results found later moment levels known store left st h stands rest =
      then_find m shape st st_next (reported_by_step (all_globals m) moment.instr operands results moment)
      (reported_calls (all_globals m) (waiting_after_step moment.instr operands (waiting_calls levels)) later)
      (observed_lead func h.below known moment.before st h.items h.are h.core here
      (reported_by_step (all_globals m) moment.instr operands results moment) (quiet h.leads) h.observes)
      (subst (λ w. Finds m shape st_next (reported_calls (all_globals m) w later)) (sym (waiting_is h.leads))
      (rest h.after (known_after_all known h.items) moment.after h.later st_next h.follows
      (observed_stands func h.below known moment.before st h.items h.are h.core here h.after moment.after h.changed)))
    where
      st_next : LogState
      st_next = log_after_all st (reported h.items)

      here : Stands m (AtFunction func ∷ h.below) known moment.before st
      here = stands_there m levels (AtFunction func ∷ h.below) known store moment.before st h.stands h.begins stands

      quiet : Leads m shape levels h.after known h.items moment operands results
          → AreQuiet m shape (reported_by_step (all_globals m) moment.instr operands results moment)
      quiet (Stays same waits reportable entries) = sizes.reportable_quiet m shape _ reportable
      quiet (Direct callee calls same there none) =
          subst (λ i. AreQuiet m shape (reported_by_step (all_globals m) i operands results moment)) (sym calls) (refl, tt)
      quiet (Indirect t callee calls same there entry entries) =
          subst (λ i. AreQuiet m shape (reported_by_step (all_globals m) i operands results moment)) (sym calls) (refl, tt)

      waiting_is : Leads m shape levels h.after known h.items moment operands results
          → waiting_after_step moment.instr operands (waiting_calls levels) ≡ waiting_calls h.after
      waiting_is (Stays same waits reportable entries) = waits (waiting_calls levels) ∙ ap waiting_calls (sym same)
      waiting_is (Direct callee calls same there none) =
          ap (λ i. waiting_after_step i operands (waiting_calls levels)) calls
          ∙ called_waiting (nat_lt callee n) true callee operands levels ∙ ap waiting_calls (sym same)
      waiting_is (Indirect t callee calls same there entry entries) =
          ap (λ i. waiting_after_step i operands (waiting_calls levels)) calls
          ∙ called_waiting (nat_lt callee n) false callee (take (length operands - 1) operands) levels
          ∙ ap waiting_calls (sym same)

  trapped : (func number : ℕ) (kind : TrapKind) (operands : List Val) (found : Option ℕ)
      → FirstFinds (Trap func number kind operands found)
  trapped func number kind operands found later moment levels known store left st h stands rest =
      then_find m shape st (log_after_all st (reported left)) (reported_by_trap moment.instr operands moment)
      (reported_calls (all_globals m) (waiting_calls levels) later)
      (observed_lead func h.below known moment.before st left h.are h.core
      (stands_there m levels (AtFunction func ∷ h.below) known store moment.before st h.stands h.begins stands)
      (reported_by_trap moment.instr operands moment) (quiet h.reports) h.observes)
      (subst (λ l. Finds m shape (log_after_all st (reported left)) (reported_calls (all_globals m) (waiting_calls levels) l))
      (sym h.last) tt)
    where
      quiet : ReportsTrap m shape moment operands → AreQuiet m shape (reported_by_trap moment.instr operands moment)
      quiet (Quiet reportable) = sizes.reportable_quiet m shape _ reportable
      quiet (AtEntry t calls entry) =
          subst (λ i. AreQuiet m shape (reported_by_trap i operands moment)) (sym calls) (refl, tt)

  -- ---- control comes to the module, or leaves it

  host_call : (func : ℕ) (args : List Val) → FirstFinds (HostCall func args)
  host_call func args later moment levels known store left st h stands rest =
      then_find m shape st (noticing moment.after st) (reported_enter func args moment.after) (calls_at m levels later)
      (sizes.enter_leads m shape st moment.after func args)
      (subst (λ w. Finds m shape (noticing moment.after st) (reported_calls (all_globals m) w later))
      (same_waiting levels)
      (rest (AtFunction func ∷ with_top_entered levels) known moment.after h.later (noticing moment.after st) h.follows
      (noticed_stands m levels (AtFunction func ∷ with_top_entered levels) known store moment.after st h.keeps stands)))

  entered : (func : ℕ) → FirstFinds (Enter func)
  entered func later moment levels known store left st h stands rest =
      subst (λ l. FindsAt m shape l known store left st (record moment { entry = Enter func } ∷ later)) (sym h.stands)
      (then_find m shape st (noticing moment.after st) (reported_enter func h.args moment.after)
      (calls_at m (AtCall h.direct func false h.args ∷ h.below) later)
      (sizes.enter_leads m shape st moment.after func h.args)
      (rest inner known moment.after left (noticing moment.after st) h.follows
      (noticed_stands m levels inner known store moment.after st
      (λ at i. ap (λ (s : Store). slice_get s.globals at) h.same) stands)))
    where
      inner : List Level
      inner = AtFunction func ∷ AtCall h.direct func true h.args ∷ h.below

  host_return : (func : ℕ) (results : List Val) → FirstFinds (HostReturn func results)
  host_return func results later moment levels known store left st h stands rest =
      subst (λ l. FindsAt m shape l known store left st (record moment { entry = HostReturn func results } ∷ later))
      (sym h.stands)
      (then_find m shape st st (reported_number hooks.Leave func moment.after) (calls_at m h.below later)
      (sizes.leave_leads m shape st moment.after func)
      (rest h.below known moment.after h.later st h.follows
      (outside_stands m levels h.below known store moment.after st h.keeps (outside n h.below h.host) stands)))

  exited : (func : ℕ) (results : List Val) → FirstFinds (Exit func results)
  exited func results later moment levels known store left st h stands rest =
      subst (λ l. FindsAt m shape l known store left st (record moment { entry = Exit func results } ∷ later))
      (sym h.stands)
      (then_find m shape st (noticing moment.after st)
      (reported_number hooks.Leave func moment.after
      ++ (reported_values moment.after results ++ reported_over callee moment.after))
      (calls_at m h.below later)
      (then_lead m shape st st (noticing moment.after st) (reported_number hooks.Leave func moment.after)
      (reported_values moment.after results ++ reported_over callee moment.after)
      (sizes.leave_leads m shape st moment.after func) (sizes.over_leads m shape st moment.after callee results))
      (rest h.below known moment.after left (noticing moment.after st) h.follows
      (noticed_stands m levels h.below known store moment.after st
      (λ at i. ap (λ (s : Store). slice_get s.globals at) h.same) stands)))
    where
      callee : Option ℕ
      callee = cond h.direct (Some func) None

  import_called : (import : ℕ) (args : List Val) → FirstFinds (ImportCall import args)
  import_called import args later moment levels known store left st h stands rest =
      subst (λ l. FindsAt m shape l known store left st (record moment { entry = ImportCall import args } ∷ later))
      (sym h.stands)
      (rest outer known moment.after h.later st h.follows
      (outside_stands m levels outer known store moment.after st h.keeps (λ w. w) stands))
    where
      outer : List Level
      outer = AtCall h.direct import false h.args ∷ h.below

  import_returned : (import : ℕ) (results : List Val) → FirstFinds (ImportReturn import results)
  import_returned import results later moment levels known store left st h stands rest =
      subst (λ l. FindsAt m shape l known store left st (record moment { entry = ImportReturn import results } ∷ later))
      (sym h.stands)
      (then_find m shape st (noticing moment.after st)
      (reported_values moment.after results ++ reported_over (cond h.direct (Some import) None) moment.after)
      (calls_at m h.below later)
      (sizes.over_leads m shape st moment.after (cond h.direct (Some import) None) results)
      (rest h.below known moment.after h.later (noticing moment.after st) h.follows
      (noticed_stands m levels h.below known store moment.after st h.keeps stands)))

  host_trapped : FirstFinds HostTrap
  host_trapped later moment levels known store left st h stands rest =
      subst (λ l. Finds m shape st (reported_calls (all_globals m) (waiting_calls levels) l)) (sym h.last) tt

  -- ---- a whole trail

  at_entry : (entry : Entry) → FirstFinds entry
  at_entry (HostCall func args) = host_call func args
  at_entry (Enter func) = entered func
  at_entry (HostReturn func results) = host_return func results
  at_entry (Exit func results) = exited func results
  at_entry (ImportCall import args) = import_called import args
  at_entry (ImportReturn import results) = import_returned import results
  at_entry (Step func number operands results found) = stepped func number operands results found
  at_entry (Trap func number kind operands found) = trapped func number kind operands found
  at_entry HostTrap = host_trapped

  pub sizes_found : (moments : List Moment) → HoldsFor m shape outcome (StandsAt m) (FindsAt m shape) moments
  sizes_found =
      holds_for m shape outcome (StandsAt m) (FindsAt m shape) at_entry (λ levels known store left st h stands. tt)
