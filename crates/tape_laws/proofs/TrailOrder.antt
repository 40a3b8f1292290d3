-- The hook calls of a trail are in order.
use Rattle.std.proofs.Common.{Bool, true, false, ◌≡◌, ℕ, ◌+◌, ◌-◌, List, [], ◌∷◌, ◌++◌, length, take, Option, Some, None, true, false, cond, ◌||◌, nat_lt, refl, sym, ap, ◌∙◌, subst}
use Rattle.std.proofs.Math.Bool.{or-true}
use Rattle.wasm_syntax.specs.declared.values.Val.{Val}
use Rattle.wasm_syntax.specs.declared.modules.Module.{Module}
use Rattle.wasm_syntax.specs.Index.{imported_funcs, all_globals}
use Rattle.wasm_syntax.specs.declared.instructions.Instr.{Instr}
use Rattle.base.specs.declared.outcomes.Outcome.{Outcome}
use Rattle.history_spec.specs.declared.entries.Entry.{Entry}
use Rattle.history_spec.specs.declared.entries.Entry.TheVariants.{HostCall, HostReturn, ImportCall, ImportReturn, Enter, Exit, Step, Trap, HostTrap}
use Rattle.history_spec.specs.Instantiation.{table_length}
use Rattle.history_spec.specs.Instruction.{bits_at}
use Rattle.history_spec.specs.Store.{Store}
use Rattle.record_replay_spec.specs.Known.{Known, entry_of, entries_after, known_after_all}
use Rattle.tape_laws.proofs.Relation.{IsKnownOf}
use Rattle.record_replay_spec.specs.declared.hooks.Hook.TheVariants.{Leave, Pre, Ipre}
use Rattle.wasm_syntax.specs.declared.instructions.Instr.TheVariants as instrs
use Rattle.record_replay_spec.specs.Observations.{Observation, ReachesEntry}
use Rattle.record_replay_spec.specs.Hooks.{HookCall}
use Rattle.record_replay_spec.specs.ReportedCalls.{Moment, reported_values, reported_number, reported_over, reported_enter, reported_by_step, reported_by_trap, reported_at, reported_calls, waiting_at, waiting_after_step}
use Rattle.record_replay_spec.specs.Order.{HookedShape, OrderState, may_report, number_or, first_disorder}
use Rattle.tape_laws.proofs.ModuleFacts.{func_there}
use Rattle.tape_laws.proofs.Trails.{Level, AtFunction, AtImport, AtCall, call_level, waiting_calls, with_top_entered, Leads, Stays, Direct, Indirect, ReportsTrap, Quiet, AtEntry, IsAtEntry, IsTrail}
use Rattle.tape_laws.proofs.CallOrder as orders
use Rattle.tape_laws.proofs.CallOrder.{IsHooked, renumbered, state, AreOrdered, callee_may}

pub same_waiting : (levels : List Level) → waiting_calls (with_top_entered levels) ≡ waiting_calls levels
same_waiting [] = refl
same_waiting (AtFunction func ∷ levels) = refl
same_waiting (AtImport direct callee args ∷ levels) = refl
same_waiting (AtCall direct callee entered args ∷ levels) = refl

-- the hook calls of moments, from these levels on
abbrev pub calls_at : Module → List Level → List Moment → List HookCall
calls_at m levels moments = reported_calls (all_globals m) (waiting_calls levels) moments

module _ (m : Module) (shape : HookedShape) (hooked : IsHooked m shape) where
  abbrev n : ℕ
  n = imported_funcs m

  abbrev after_index : (func index : ℕ) → List Level → ℕ → Store → (callee : Option ℕ) → OrderState
  after_index = orders.after_index m shape hooked

  -- ---- a whole trail

  -- hook calls in order, and then others
  then : (first rest : List HookCall) (order after : OrderState) → AreOrdered shape order (renumbered m first) after
      → ((at : ℕ) → first_disorder shape after at (renumbered m rest) ≡ None) → (at : ℕ)
      → first_disorder shape order at (renumbered m (first ++ rest)) ≡ None
  then [] rest order after h q at = subst (λ o. first_disorder shape o at (renumbered m rest) ≡ None) (sym h) (q at)
  then (call ∷ first) rest order after h q at =
      ap (λ o. number_or at o (λ next. first_disorder shape next (at + 1) (renumbered m (first ++ rest)))) h.1
      ∙ then first rest h.0 after h.2 q (at + 1)

  -- the hook calls of a trail are in order
  abbrev InOrder : List Level → ℕ → List Moment → Type 0
  InOrder levels entries later =
      (at : ℕ)
      → first_disorder shape (state levels [] entries) at (renumbered m (calls_at m levels later)) ≡ None

  -- the hook calls after a call that begins are in order, as after a call of any function
  after_call : (later : List Moment) (levels after : List Level) (known entries : ℕ) (direct : Bool) (callee : ℕ)
      (args : List Val) → after ≡ call_level (nat_lt callee n) direct callee args ∷ levels → known ≡ entries
      → InOrder after known later → InOrder (AtCall direct callee false args ∷ levels) entries later
  after_call later levels after known entries direct callee args same e rest =
      as_call (nat_lt callee n)
      (subst (λ e. InOrder (call_level (nat_lt callee n) direct callee args ∷ levels) e later) e
      (subst (λ l. InOrder l known later) same rest))
    where
      as_call : (imported : Bool) → InOrder (call_level imported direct callee args ∷ levels) entries later
          → InOrder (AtCall direct callee false args ∷ levels) entries later
      as_call true h = h
      as_call false h = h

  -- the hook calls of a moment with this entry, and those that follow, are in order
  abbrev EntryInOrder : List Moment → Moment → ℕ → Entry → List Level → Type 0
  EntryInOrder later moment entries entry levels =
      (at : ℕ)
      → first_disorder shape (state levels [] entries) at
      (renumbered m
      (reported_at (all_globals m) (waiting_calls levels) moment entry
      ++ reported_calls (all_globals m) (waiting_at (waiting_calls levels) moment entry) later))
      ≡ None

  -- the hook calls of a step with this instruction, and those that follow, are in order
  abbrev StepInOrder : List Moment → Moment → List Level → ℕ → (operands results : List Val) → Option Instr → Type 0
  StepInOrder later moment levels entries operands results instr =
      (at : ℕ)
      → first_disorder shape (state levels [] entries) at
      (renumbered m
      (reported_by_step (all_globals m) instr operands results moment
      ++ reported_calls (all_globals m) (waiting_after_step instr operands (waiting_calls levels)) later))
      ≡ None

  -- an instruction is executed
  step_entry : (later : List Moment) (moment : Moment) (func : ℕ) (below after levels : List Level) (known : Known)
      (items : List Observation) (operands results : List Val) → IsKnownOf known moment.before
      → levels ≡ AtFunction func ∷ below → Leads m shape levels after known items moment operands results
      → InOrder after (known_after_all known items).entries later
      → StepInOrder later moment levels known.entries operands results moment.instr
  step_entry later moment func below after levels known items operands results of stands
      (Stays same waits reportable entries) rest =
      then (reported_by_step (all_globals m) moment.instr operands results moment)
      (reported_calls (all_globals m) (waiting_after_step moment.instr operands (waiting_calls levels)) later)
      (state levels [] known.entries) (state levels [] known.entries)
      (orders.reportable_ordered m shape hooked (reported_by_step (all_globals m) moment.instr operands results moment)
      (state levels [] known.entries) (ap (λ l. may_report (state l [] known.entries)) stands) reportable)
      (λ at. subst
      (λ w. first_disorder shape (state levels [] known.entries) at
      (renumbered m (reported_calls (all_globals m) w later)) ≡ None)
      (sym (waits (waiting_calls levels)))
      (subst (λ e. InOrder levels e later) entries
      (subst (λ l. InOrder l (known_after_all known items).entries later) same rest) at))
  step_entry later moment func below after levels known items operands results of stands
      (Direct callee calls same there none) rest =
      subst (StepInOrder later moment levels known.entries operands results) (sym calls)
      (then (reported_number Pre callee moment.before ++ [])
      (reported_calls (all_globals m)
      (waiting_after_step (Some (instrs.Call callee)) operands (waiting_calls levels)) later)
      (state levels [] known.entries) (state (AtCall true callee false operands ∷ levels) [] known.entries)
      (subst
      (λ l. AreOrdered shape (state l [] known.entries) (renumbered m (reported_number Pre callee moment.before ++ []))
      (state (AtCall true callee false operands ∷ l) [] known.entries))
      (sym stands)
      (orders.pre_ordered m shape hooked callee func operands below known.entries moment.before there))
      (after_call later levels after (known_after_all known items).entries known.entries true callee operands same
      (ap (λ l. (known_after_all known l).entries) none) rest))
  step_entry later moment func below after levels known items operands results of stands
      (Indirect t callee calls same there entry entries) rest =
      subst (StepInOrder later moment levels known.entries operands results) (sym calls)
      (then (reported_number Ipre index moment.before)
      (reported_calls (all_globals m)
      (waiting_after_step (Some (instrs.CallIndirect t)) operands (waiting_calls levels)) later)
      (state levels [] known.entries) (state (AtCall false callee false args ∷ levels) [] seen)
      (subst
      (λ l. AreOrdered shape (state l [] known.entries) (renumbered m (reported_number Ipre index moment.before))
      (state (AtCall false callee false args ∷ l) [] seen))
      (sym stands)
      (orders.ipre_ordered m shape hooked func index below known.entries moment.before (Some callee) of.entries entry
      there))
      (after_call later levels after (known_after_all known items).entries seen false callee args same entries rest))
    where
      index : ℕ
      index = bits_at operands (length operands - 1)

      args : List Val
      args = take (length operands - 1) operands

      seen : ℕ
      seen = entries_after known.entries (ReachesEntry index (table_length moment.before.table))

  -- an instruction traps
  trap_entry : (later : List Moment) (moment : Moment) (func : ℕ) (below levels : List Level) (known : Known)
      (operands : List Val) → IsKnownOf known moment.before → levels ≡ AtFunction func ∷ below
      → ReportsTrap m shape moment operands → later ≡ [] → (at : ℕ)
      → first_disorder shape (state levels [] known.entries) at
      (renumbered m
      (reported_by_trap moment.instr operands moment ++ reported_calls (all_globals m) (waiting_calls levels) later))
      ≡ None
  trap_entry later moment func below levels known operands of stands reports last at =
      ap
      (λ l. first_disorder shape (state levels [] known.entries) at
      (renumbered m (reported_by_trap moment.instr operands moment ++ reported_calls (all_globals m) (waiting_calls levels) l)))
      last
      ∙ go reports
    where
      index : ℕ
      index = bits_at operands (length operands - 1)

      go : ReportsTrap m shape moment operands
          → first_disorder shape (state levels [] known.entries) at
          (renumbered m (reported_by_trap moment.instr operands moment ++ []))
          ≡ None
      go (Quiet reportable) =
          then (reported_by_trap moment.instr operands moment) [] (state levels [] known.entries)
          (state levels [] known.entries)
          (orders.reportable_ordered m shape hooked (reported_by_trap moment.instr operands moment) (state levels [] known.entries)
          (ap (λ l. may_report (state l [] known.entries)) stands) reportable) (λ at. refl) at
      go (AtEntry t calls entry) =
          subst
          (λ i. first_disorder shape (state levels [] known.entries) at (renumbered m (reported_by_trap i operands moment ++ []))
          ≡ None)
          (sym calls)
          (subst
          (λ l. first_disorder shape (state l [] known.entries) at (renumbered m (reported_number Ipre index moment.before ++ []))
          ≡ None)
          (sym stands)
          (then (reported_number Ipre index moment.before) [] (state (AtFunction func ∷ below) [] known.entries)
          (after_index func index below known.entries moment.before (entry_of moment.before.table index))
          (orders.ipre_ordered m shape hooked func index below known.entries moment.before (entry_of moment.before.table index) of.entries
          refl entry) (λ at. refl) at))

  -- the hook calls from one entry on are in order, if those after it are
  at_entry : (outcome : Option Outcome) (later : List Moment) (moment : Moment) (levels : List Level) (known : Known)
      (store : Store) (left : List Observation)
      → ((levels : List Level) (known : Known) (store : Store) (left : List Observation)
      → IsTrail m shape outcome later levels known store left → InOrder levels known.entries later)
      → (entry : Entry)
      → IsAtEntry m shape levels known store left outcome later moment entry (IsTrail m shape outcome later)
      → EntryInOrder later moment known.entries entry levels
  at_entry outcome later moment levels known store left rest (HostCall func args) h =
      then (reported_enter func args moment.after) (reported_calls (all_globals m) (waiting_calls levels) later)
      (state levels [] known.entries) (state (AtFunction func ∷ with_top_entered levels) [] known.entries)
      (orders.enter_ordered m shape hooked func args levels known.entries moment.after h.defined
      (func_there m func h.typed.ty h.typed.has_type) h.typed (orders.host_may m shape hooked func levels h.host))
      (λ at. subst
      (λ w. first_disorder shape (state (AtFunction func ∷ with_top_entered levels) [] known.entries) at
      (renumbered m (reported_calls (all_globals m) w later)) ≡ None)
      (same_waiting levels)
      (rest (AtFunction func ∷ with_top_entered levels) known moment.after h.later h.follows at))
  at_entry outcome later moment levels known store left rest (Enter func) h =
      subst (EntryInOrder later moment known.entries (Enter func)) (sym h.stands)
      (then (reported_enter func h.args moment.after)
      (reported_calls (all_globals m) (waiting_calls (AtCall h.direct func false h.args ∷ h.below)) later)
      (state (AtCall h.direct func false h.args ∷ h.below) [] known.entries)
      (state (AtFunction func ∷ AtCall h.direct func true h.args ∷ h.below) [] known.entries)
      (orders.enter_ordered m shape hooked func h.args (AtCall h.direct func false h.args ∷ h.below) known.entries moment.after h.defined
      (func_there m func h.typed.ty h.typed.has_type) h.typed (callee_may shape.imports func))
      (rest (AtFunction func ∷ AtCall h.direct func true h.args ∷ h.below) known moment.after left h.follows))
  at_entry outcome later moment levels known store left rest (HostReturn func results) h =
      subst (EntryInOrder later moment known.entries (HostReturn func results)) (sym h.stands)
      (then (reported_number Leave func moment.after) (reported_calls (all_globals m) (waiting_calls h.below) later)
      (state (AtFunction func ∷ h.below) [] known.entries) (state h.below [] known.entries)
      (orders.leave_ordered m shape hooked func h.below known.entries moment.after) (rest h.below known moment.after h.later h.follows))
  at_entry outcome later moment levels known store left rest (Exit func results) h =
      subst (EntryInOrder later moment known.entries (Exit func results)) (sym h.stands)
      (then
      (reported_number Leave func moment.after
      ++ (reported_values moment.after results ++ reported_over (cond h.direct (Some func) None) moment.after))
      (reported_calls (all_globals m) (waiting_calls h.below) later)
      (state (AtFunction func ∷ AtCall h.direct func true h.args ∷ h.below) [] known.entries)
      (state h.below [] known.entries)
      (orders.reported_both m shape (reported_number Leave func moment.after)
      (reported_values moment.after results ++ reported_over (cond h.direct (Some func) None) moment.after)
      (state (AtFunction func ∷ AtCall h.direct func true h.args ∷ h.below) [] known.entries)
      (state (AtCall h.direct func true h.args ∷ h.below) [] known.entries) (state h.below [] known.entries)
      (orders.leave_ordered m shape hooked func (AtCall h.direct func true h.args ∷ h.below) known.entries moment.after)
      (orders.over_ordered m shape hooked h.direct func true h.args results h.below known.entries moment.after (or-true (nat_lt func n))
      h.typed))
      (rest h.below known moment.after left h.follows))
  at_entry outcome later moment levels known store left rest (ImportReturn import results) h =
      subst (EntryInOrder later moment known.entries (ImportReturn import results)) (sym h.stands)
      (then (reported_values moment.after results ++ reported_over (cond h.direct (Some import) None) moment.after)
      (reported_calls (all_globals m) (waiting_calls h.below) later)
      (state (AtCall h.direct import h.entered h.args ∷ h.below) [] known.entries) (state h.below [] known.entries)
      (orders.over_ordered m shape hooked h.direct import h.entered h.args results h.below known.entries moment.after
      (ap (λ b. b || h.entered) h.imported) h.typed)
      (rest h.below known moment.after h.later h.follows))
  at_entry outcome later moment levels known store left rest (ImportCall import args) h =
      subst (EntryInOrder later moment known.entries (ImportCall import args)) (sym h.stands)
      (rest (AtCall h.direct import false h.args ∷ h.below) known moment.after h.later h.follows)
  at_entry outcome later moment levels known store left rest (Step func number operands results found) h =
      step_entry later moment func h.below h.after levels known h.items operands results h.of h.stands h.leads
      (rest h.after (known_after_all known h.items) moment.after h.later h.follows)
  at_entry outcome later moment levels known store left rest (Trap func number kind operands found) h =
      trap_entry later moment func h.below levels known operands h.of h.stands h.reports h.last
  at_entry outcome later moment levels known store left rest HostTrap h =
      λ at. ap
      (λ l. first_disorder shape (state levels [] known.entries) at (renumbered m (reported_calls (all_globals m) (waiting_calls levels) l)))
      h.last

  pub in_order : (outcome : Option Outcome) (later : List Moment) (levels : List Level) (known : Known) (store : Store)
      (left : List Observation) → IsTrail m shape outcome later levels known store left
      → InOrder levels known.entries later
  in_order outcome [] levels known store left h at = refl
  in_order outcome (moment ∷ later) levels known store left h at =
      at_entry outcome later moment levels known store left (in_order outcome later) moment.entry h at
