-- The moments of each step, and of all steps, are a trail.
use Rattle.std.proofs.Common.{◌≡◌, ℕ, zero, suc, ◌-◌, List, [], ◌∷◌, ◌++◌, length, Option, Some, None, Bool, true, false, nat_lt, slice_get, refl, sym, ap, ◌∙◌, subst, inl, inr}
use Rattle.std.specs.Prelude.{◌⊎◌}
use Rattle.std.specs.List.{AllByRecursion}
use Rattle.std.proofs.lemmas.List.{append-nil}
use Rattle.wasm_syntax.specs.declared.values.Val.{Val}
use Rattle.wasm_syntax.specs.declared.signatures.FuncType.{FuncType}
use Rattle.wasm_syntax.specs.declared.signatures.GlobalType.{GlobalType}
use Rattle.wasm_syntax.specs.declared.instructions.Instr.{Instr}
use Rattle.wasm_syntax.specs.declared.instructions.Instr.TheVariants as instrs
use Rattle.wasm_syntax.specs.declared.modules.Module.{Module}
use Rattle.wasm_syntax.specs.Encoding.Forms.{IsCoreModule}
use Rattle.wasm_syntax.specs.Index.{all_memories, imported_funcs, all_globals, all_tables}
use Rattle.wasm_syntax.specs.Typing.{is_number}
use Rattle.wasm_syntax.specs.Validity.{IsValid}
use Rattle.host_script.specs.declared.scripts.Answer.{Answer}
use Rattle.host_script.specs.Fits.{FitAnswers}
use Rattle.base.specs.declared.outcomes.Outcome.TheVariants.{Trapped}
use Rattle.history_spec.specs.declared.entries.TrapKind.{TrapKind}
use Rattle.history_spec.specs.declared.entries.Entry.TheVariants.{Step, Trap}
use Rattle.history_spec.specs.Store.{Store}
use Rattle.history_spec.specs.Code.{code_of}
use Rattle.history_spec.specs.Configuration.{Frame, Activation, InModule, Config}
use Rattle.history_spec.specs.Instruction.{Control, Goes, Calls, Returns, Execution, Did, Traps, NoRule, bits_at, execute}
use Rattle.history_spec.specs.Instantiation.{table_length}
use Rattle.history_spec.specs.Step.{Program, Finished, call_function, after_control, after_instruction}
use Rattle.record_replay_spec.specs.Observations.{Observation, observations, ReachesEntry}
use Rattle.record_replay_spec.specs.Known.{Known, entries_after, known_after_all}
use Rattle.record_replay_spec.specs.Changes.{with_changes}
use Rattle.record_replay_spec.specs.Executions.{left_store}
use Rattle.record_replay_spec.specs.ObservedStepLaws.{observed}
use Rattle.type_safety.specs.Configurations.{scope, IsConfig, IsTypedCode}
use Rattle.type_safety.specs.Frames.{IsFrame}
use Rattle.type_safety.specs.Heights.{Heights}
use Rattle.type_safety.specs.Results.{HasRule, IsControl}
use Rattle.type_safety.specs.Stores.{func_count}
use Rattle.tape_laws.proofs.Relation.{IsKnownOf, AreSeen}
use Rattle.tape_laws.specs.Below.{LawsOfSteps}
use Rattle.tape_laws.proofs.KeptSteps.{trap_seen, done_seen, done_known, left_is}
use Rattle.tape_laws.specs.RealReads.{observed_from}
use Rattle.record_replay_spec.specs.Order.{HookedShape}
use Rattle.record_replay_spec.specs.ReportedCalls.{reported_by_step, reported_by_trap, Moment, moments, next_of_nest, store_executed}
use Rattle.tape_laws.proofs.CoreFrames.{CoreFrame, CoreStack, IsNoCall, CallsAs, KeepsCore, Keeps, execute_keeps}
use Rattle.tape_laws.proofs.Mirrors.{OpenFunction, Mirrors}
use Rattle.tape_laws.proofs.TypedStores.{entry_there}
use Rattle.tape_laws.proofs.ModuleFacts.{AreNestReportedWell, nest_of_core, func_there, nest_stays, call_sees, no_call_waits, nest_well}
use Rattle.tape_laws.proofs.RunCalls.{moments_at, RuleHolds, IsReportedOfNest, nest_reported, global_at, few_pages}
use Rattle.tape_laws.proofs.CallObservations.{seen_by, as_reported}
use Rattle.tape_laws.proofs.Reportable.{IsShapeOf}
use Rattle.tape_laws.proofs.Trails.{call_level, Level, AtFunction, IsOfCore, Leads, Stays, Direct, Indirect, ReportsTrap, Quiet, AtEntry, IsTrail}
use Rattle.tape_laws.proofs.NextInstructions.{trap_kind, call_silent, indirect_nest, table_there}
use Rattle.tape_laws.proofs.TrailCalls as trail_calls
use Rattle.tape_laws.proofs.TrailsOfRuns as trails
use Rattle.tape_laws.proofs.TrailsOfRuns.{Reported, Delivers}

module _ (laws : LawsOfSteps) (m : Module) (heights : Heights) (valid : IsValid m) (typed : IsTypedCode m heights)
    (core : IsCoreModule m) (answers : List (Option Answer)) (fits : FitAnswers m answers) (shape : HookedShape)
    (is_shape : IsShapeOf m shape)
    (number : (x : ℕ) (g : GlobalType) → slice_get (all_globals m) x ≡ Some g → is_number g.ty ≡ true) where
  abbrev program : Program
  program = record { code = code_of m; answers = answers }

  abbrev n : ℕ
  n = imported_funcs m

  module _ (k : ℕ) (delivers : Delivers m heights answers shape k) where
    -- ---- a step of the module

    module _ (frame : Frame) (below : List Activation) (store : Store) (counts : List ℕ) (levels : List Level)
        (known : Known)
        (fine : IsConfig m heights (record { store = store; stack = InModule frame ∷ below; counts = counts }))
        (of : IsKnownOf known store) (c : CoreStack (InModule frame ∷ below))
        (mirrors : Mirrors n None (InModule frame ∷ below) levels) where
      abbrev config : Config
      config = record { store = store; stack = InModule frame ∷ below; counts = counts }

      abbrev items : List Observation
      items = observed store frame

      abbrev instr : Option Instr
      instr = next_of_nest frame.at.rest

      abbrev ty : FuncType
      ty = fine.stack.0

      kept : Keeps store frame.values instr (execute (code_of m) store frame)
      kept = execute_keeps (code_of m) store frame c.0

      well : IsNoCall instr
          → AreNestReportedWell m shape is_shape number store frame.at.rest (execute (code_of m) store frame)
      well none =
          nest_well m shape is_shape number (scope m heights frame.func fine.stack.0 fine.stack.1) refl (code_of m) store
          frame fine.store fine.stack.2 c.0.rest none

      -- the hook calls of a step observe what the step observes
      observes : RuleHolds shape n (all_globals m) is_shape.globals (execute (code_of m) store frame)
          → IsReportedOfNest shape n (all_globals m) is_shape.globals store frame.values frame.at.rest
          (execute (code_of m) store frame)
      observes rule =
          nest_reported shape n (all_globals m) is_shape.globals (code_of m) store frame c.0.rest
          (λ x value is. global_at (func_count m) (all_globals m) store.globals x value fine.store.globals is)
          (λ memory is. few_pages (all_memories m) store.memory memory fine.store.memory is) rule

      -- the moments of the step and those after it are a trail, from the store before the step
      abbrev Follows : Execution → Type 0
      Follows e =
          IsTrail m shape (trails.ending m heights answers shape k
          (after_instruction program config frame below e).next)
          (moments_at instr store (store_executed store e) (after_instruction program config frame below e).entries
          ++ moments program k (after_instruction program config frame below e).next) levels known store
          (items ++ observed_from program k (after_instruction program config frame below e))

      trapped : (kind : TrapKind) (operands : List Val) (found : Option ℕ)
          → execute (code_of m) store frame ≡ Traps kind operands found → Follows (Traps kind operands found)
      trapped kind operands found e = by k
        where
          moment : Moment
          moment = record {
            entry = Trap frame.func frame.at.number kind operands found;
            instr = instr;
            before = store;
            after = store;
          }

          are : AreSeen known store (items ++ [])
          are =
              subst (AreSeen known store) (sym (append-nil items))
              (trap_seen laws.own laws.answers m (code_of m) store fine.store frame known kind operands found e)

          of_core : AllByRecursion IsOfCore (items ++ [])
          of_core =
              subst (AllByRecursion IsOfCore) (sym (append-nil items))
              (nest_of_core store frame.values frame.at.rest c.0.rest)

          reported_as : seen_by shape n (all_globals m) (reported_by_trap instr operands moment)
              ≡ as_reported shape n (all_globals m) (items ++ [])
          reported_as =
              subst
              (IsReportedOfNest shape n (all_globals m) is_shape.globals store frame.values frame.at.rest) e
              (observes (subst (RuleHolds shape n (all_globals m) is_shape.globals) (sym e) tt))
              ∙ ap (as_reported shape n (all_globals m)) (sym (append-nil items))

          reports : ReportsTrap m shape moment operands
          reports =
              go
              (trap_kind instr
              (subst (KeepsCore store frame.values instr) e kept.kept))
            where
              go : ((t : ℕ) × (instr ≡ Some (instrs.CallIndirect t))) ⊎ IsNoCall instr
                  → ReportsTrap m shape moment operands
              go (inl p) = AtEntry p.0 p.1 (entry_there (func_count m) (all_tables m) store.table _ fine.store.table)
              go (inr none) =
                  Quiet (subst (AreNestReportedWell m shape is_shape number store frame.at.rest) e (well none))

          last : IsTrail m shape (Some Trapped) (moment ∷ []) levels known store (items ++ [])
          last =
              record {
                begins = refl;
                below = mirrors.below;
                stands = mirrors.stands;
                of = of;
                are = are;
                core = of_core;
                observes = reported_as;
                reports = reports;
                last = refl;
                over = refl;
              }

          by : (j : ℕ)
              → IsTrail m shape (trails.ending m heights answers shape j (Finished Trapped))
              (moment ∷ moments program j (Finished Trapped)) levels known store
              (items ++ observations program j (Finished Trapped))
          by zero = last
          by (suc j) = last

      -- an instruction is executed
      module _ (operands results : List Val) (found : Option ℕ) (control : Control)
          (e : execute (code_of m) store frame ≡ Did operands results found control) where
        abbrev did : Execution
        did = Did operands results found control

        are : AreSeen known store items
        are =
            done_seen laws.own laws.answers m (code_of m) store fine.store frame known operands results found control e

        left : left_store store control ≡ with_changes store items
        left = left_is laws.own laws.answers m (code_of m) store fine.store frame known operands results found control e

        abbrev known_next : Known
        known_next = known_after_all known items

        of_next : IsKnownOf known_next (left_store store control)
        of_next =
            done_known laws.own laws.answers m (code_of m) store fine.store frame known operands results found control e
            of

        abbrev moment : Moment
        moment = record {
          entry = Step frame.func frame.at.number operands results found;
          instr = instr;
          before = store;
          after = store_executed store did;
        }

        reported_did : seen_by shape n (all_globals m) (reported_by_step (all_globals m) instr operands results moment)
            ≡ as_reported shape n (all_globals m) items
        reported_did =
            subst (IsReportedOfNest shape n (all_globals m) is_shape.globals store frame.values frame.at.rest) e
            (observes (subst (RuleHolds shape n (all_globals m) is_shape.globals) (sym e) tt))

        stays : IsNoCall instr → Leads m shape levels levels known items moment operands results
        stays none =
            Stays refl (no_call_waits instr operands none)
            (subst (AreNestReportedWell m shape is_shape number store frame.at.rest) e (well none))
            (nest_stays known store frame.values frame.at.rest c.0.rest none)

        kept_did : KeepsCore store frame.values instr did
        kept_did = subst (KeepsCore store frame.values instr) e kept.kept

        -- a step and the trail after it are a trail
        stepped : (after : List Level) → Leads m shape levels after known items moment operands results
            → Reported m heights answers shape k instr store (store_executed store did) (after_control program config frame below control) after
            known_next
            → Follows did
        stepped after leads follows =
            record {
              begins = refl;
              below = mirrors.below;
              stands = mirrors.stands;
              items = items;
              later = observed_from program k (after_control program config frame below control);
              observed = refl;
              of = of;
              are = are;
              core = nest_of_core store frame.values frame.at.rest c.0.rest;
              observes = reported_did;
              changed = after_is control ∙ left;
              after = after;
              leads = leads;
              follows = follows;
            }
          where
            after_is : (control : Control)
                → store_executed store (Did operands results found control) ≡ left_store store control
            after_is (Goes next_store next) = refl
            after_is (Calls waiting func args) = refl
            after_is (Returns given) = refl

      going : (operands results : List Val) (found : Option ℕ) (control : Control)
          → execute (code_of m) store frame ≡ Did operands results found control
          → IsControl (scope m heights frame.func fine.stack.0 fine.stack.1) control
          → Follows (Did operands results found control)
      going operands results found (Goes next_store next) e rule =
          let control = Goes next_store next in
          let kept = kept_did operands results found control e in
          stepped operands results found control e levels (stays operands results found control e kept.1)
          (delivers (InModule next ∷ below) [] [] next_store counts levels
          (known_next operands results found control e) instr store
          (fine.stack.0, fine.stack.1, same_frame rule.1, fine.stack.3) tt rule.0
          (of_next operands results found control e) fine.counts (kept.0, c.1)
          (subst (λ func. OpenFunction func levels (Mirrors n (Some func) below)) (sym rule.1.around.func) mirrors))
        where
          same_frame : IsFrame (scope m heights frame.func fine.stack.0 fine.stack.1) [] next
              → IsFrame (scope m heights next.func fine.stack.0 fine.stack.1) [] next
          same_frame f =
              subst (λ func. IsFrame (scope m heights func fine.stack.0 fine.stack.1) [] next) (sym f.around.func) f
      going operands results found (Returns given) e rule =
          let control = Returns given in
          let f = fine.stack.2 in
          stepped operands results found control e levels
          (stays operands results found control e (kept_did operands results found control e))
          (trails.returned m heights answers shape k frame.func given below store counts levels
          mirrors.below (known_next operands results found control e) instr store
          (trails.is_defined m heights answers shape frame.func fine.stack.1 f.around.scope.defined)
          (record { ty = fine.stack.0; has_type = f.around.scope.has_type; are = rule }) mirrors.stands mirrors.mirrors
          (λ levels mirrors. delivers below fine.stack.0.results given store counts levels
          (known_next operands results found control e) instr store fine.stack.3 rule fine.store
          (of_next operands results found control e) fine.counts c.1 mirrors))
      going operands results found (Calls waiting func args) e rule =
          by instr refl kept.1
        where
          control : Control
          control = Calls waiting func args

          kept : CoreFrame waiting × CallsAs store frame.values instr operands func args
          kept = kept_did operands results found control e

          f : IsFrame (scope m heights waiting.func fine.stack.0 fine.stack.1) rule.0.results waiting
          f = subst (λ g. IsFrame (scope m heights g fine.stack.0 fine.stack.1) rule.0.results waiting)
              (sym rule.2.around.func) rule.2

          -- the step makes a call, by its index or by the table
          made : (direct : Bool)
              → Leads m shape levels (call_level (nat_lt func n) direct func args ∷ levels) known items
              (moment operands results found control e) operands results
              → Follows (Did operands results found (Calls waiting func args))
          made direct leads =
              stepped operands results found control e (call_level (nat_lt func n) direct func args ∷ levels) leads
              (subst
              (λ l. Reported m heights answers shape k instr store store
              (call_function program (nat_lt func n) store counts func args (InModule waiting ∷ below))
              (call_level (nat_lt func n) direct func args ∷ l) (known_next operands results found control e))
              (ap (λ g. AtFunction g ∷ mirrors.below) rule.2.around.func ∙ sym mirrors.stands)
              (trail_calls.called m heights typed core answers fits shape k delivers func rule.0 args direct waiting below
              store counts mirrors.below (known_next operands results found control e) instr store rule.1 rule.3
              fine.store (of_next operands results found control e) fine.counts
              (fine.stack.0, fine.stack.1, f, fine.stack.3) (kept.0, c.1)
              (subst (λ g. Mirrors n (Some g) below mirrors.below) (sym rule.2.around.func) mirrors.mirrors)
              (nat_lt func n) refl))

          by : (o : Option Instr) → instr ≡ o → CallsAs store frame.values o operands func args
              → Follows (Did operands results found (Calls waiting func args))
          by None is calls = absurd calls
          by (Some (instrs.Call callee)) is calls =
              made true
              (Direct func (is ∙ ap (λ x. Some (instrs.Call x)) calls.0)
              (ap (λ l. call_level (nat_lt func n) true func l ∷ levels) calls.1) (func_there m func rule.0 rule.1)
              (call_silent store frame.values frame.at.rest callee is))
          by (Some (instrs.CallIndirect t)) is calls =
              let nest = indirect_nest frame.at.rest t is in
              let table = table_there store.table (bits_at operands (length operands - 1)) func calls.entry in
              made false
              (Indirect t func is (ap (λ l. call_level (nat_lt func n) false func l ∷ levels) calls.given)
              (func_there m func rule.0 rule.1) calls.entry
              (call_sees known store frame.values t nest.0 frame.at.rest table.0 nest.1 table.1
              ∙ ap (λ i. entries_after known.entries (ReachesEntry i (table_length store.table))) (sym calls.top)))
          by (Some i) is calls = absurd calls

      pub executed : (e : Execution) → execute (code_of m) store frame ≡ e
          → HasRule (scope m heights frame.func fine.stack.0 fine.stack.1) e → Follows e
      executed (Did operands results found control) e rule = going operands results found control e rule
      executed (Traps kind operands found) e rule = trapped kind operands found e
      executed NoRule e rule = absurd rule
