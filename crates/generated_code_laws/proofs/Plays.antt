-- The activation of the host plays its next segment.
use Rattle.std.proofs.Common.{◌≡◌, ℕ, ◌+◌, ◌≤◌, List, [], ◌∷◌, ◌++◌, length, reverse, Option, Some, None, false, replicate, refl, sym, ap, ◌∙◌, subst, arith, inl}
use Rattle.std.specs.Prelude.{map}
use Rattle.wasm_syntax.specs.declared.values.Val.{Val}
use Rattle.wasm_syntax.specs.declared.signatures.FuncType.{FuncType}
use Rattle.wasm_syntax.specs.declared.instructions.Instr.{Instr}
use Rattle.wasm_syntax.specs.declared.instructions.Instr.TheVariants.{Call, Const, Drop}
use Rattle.wasm_syntax.specs.declared.modules.Module.{Module}
use Rattle.wasm_syntax.specs.Nest.{Nest, Empty, Plain}
use Rattle.wasm_syntax.specs.Index.{imported_funcs}
use Rattle.trace_model.specs.declared.tapes.Next.TheVariants.{Call as Calls}
use Rattle.trace_model.specs.declared.tapes.Origin.{Origin}
use Rattle.trace_model.specs.declared.tapes.Segment.{Segment}
use Rattle.history_spec.specs.declared.entries.Entry.{Entry}
use Rattle.history_spec.specs.declared.entries.Entry.TheVariants.{Enter, HostCall, Step}
use Rattle.history_spec.specs.Code.{Code, Definition, code_of, definition, signature, types_of}
use Rattle.history_spec.specs.Store.{Store}
use Rattle.history_spec.specs.Configuration.{place, Config, Label, Frame, Activation, InModule, point, at_point}
use Rattle.history_spec.specs.Instruction.{Operands, on, takes, calls}
use Rattle.history_spec.specs.Settle.{NoRule as NoneHolds, SettleResult, settle_result, deliver}
use Rattle.history_spec.specs.Step.{after_entries, after_instruction, after_settling, call_function, enter_defined, frame_of, enter_function, StepResult}
use Rattle.history_spec.specs.Projection.{Side, Original, Appended, side, shown_call, shown_step}
use Rattle.replay_module_spec.specs.declared.plans.Plan.{Plan}
use Rattle.replay_module_spec.specs.Plans.{innermost, left_of}
use Rattle.replay_module_spec.specs.Dispatch.{sequence}
use Rattle.replay_module_spec.specs.Segments.{segments_code}
use Rattle.replay_module_spec.specs.Fragments.{start_index}
use Rattle.record_replay_spec.specs.TapeRun.{after_next, after_step}
use Rattle.replay_run_spec.specs.Items.{Makes, Steps}
use Rattle.generated_code_laws.specs.Leads.{Place, Leads, IsOutside, Behind, Standing, standing}
use Rattle.replay_module_spec.specs.Merge.{layout_of}
use Rattle.replay_module_laws.specs.Stores.{counters, with_own}
use Rattle.replay_module_laws.specs.Codes.{IsReplayCode}
use Rattle.generated_code_laws.proofs.Relation.{AreBeside, imports_in, waiting_frame, watched}
use Rattle.generated_code_laws.proofs.Sides.{appended_side, below_start, none_imported, original_side}
use Rattle.generated_code_laws.proofs.Settled.{none_settles, returned, settled}
use Rattle.generated_code_laws.proofs.Codes.{does_consts, pops_pushed}
use Rattle.generated_code_laws.proofs.Together.{WithinBy, IsPlayed, Follows}
use Rattle.generated_code_laws.proofs.Bounded.{bounded_before, made_bounded}
use Rattle.generated_code_laws.proofs.Parts.{MakesStep, follows_settled}
use Rattle.generated_code_laws.specs.Below.{RunLaws}

module _ (laws : RunLaws) (m : Module) (plan : Plan) (code : Code) (is : IsReplayCode m plan code)
    (store : Store) (counts : List ℕ) where
  abbrev beside : Store
  beside = with_own (counters counts) store

  -- ---- constants, and then something

  module _ (s : Standing) (outside : IsOutside (layout_of m) s.frame.func) (values : List Val) (labels : List Label)
      (i : Instr) (rest : Nest) (number : ℕ) where
    pub record ArePushed : Type 0 where
      pub at : ℕ
      pub leads : Leads (watched m code)
          (standing s beside [] labels (sequence (map Const values) (Plain i rest)) number)
          (replicate (length values) (Steps false))
          (standing s beside (reverse values ++ []) labels (Plain i rest) at)

    pub pushes : ArePushed
    pushes =
        let r = does_consts (watched m code) s outside beside [] values labels (Plain i rest) number refl in
        record { at = r.at; leads = r.leads }

  -- ---- a call of a function of the original

  module _ (base : Frame) (below : List Activation) (inside : List ℕ) (past : start_index m ≤ base.func)
      (stack : List Activation) (segments : List Segment) (came : Origin) (premise : Type 0)
      (func : ℕ) (args : List Val) (ty : FuncType) (typed : signature (code_of m) func ≡ Some ty)
      (past_imports : imported_funcs m ≤ func) (given : types_of args ≡ ty.params)
      (again : (labels : List Label) (number : ℕ)
      → AreBeside m ty.results stack (left_of (imported_funcs m) segments).begun
      (InModule
      (waiting_frame m ty.results (innermost (left_of (imported_funcs m) segments).begun) base labels number)
      ∷ below) (base.func ∷ inside))
      (played : IsPlayed m plan store counts (imports_in stack) segments) where
    abbrev begun : List (List Segment)
    begun = (left_of (imported_funcs m) segments).begun

    abbrev base_outside : IsOutside (layout_of m) base.func
    base_outside = Behind (appended_side m base.func past)

    abbrev s : Standing
    s = record { frame = base; below = below; counts = []; inside = base.func ∷ inside }

    abbrev after_call : Nest
    after_call = sequence (replicate (length ty.results) Drop ++ segments_code m (innermost begun)) Empty

    func_side : side (layout_of m) func ≡ Original
    func_side = original_side m func past_imports (below_start m func ty typed)

    abbrev call_place : (labels : List Label) (number : ℕ) → Place
    call_place labels number = standing s beside (reverse args ++ []) labels (Plain (Call func) after_call) number

    abbrev waiting : (labels : List Label) (number : ℕ) → Frame
    waiting labels number = waiting_frame m ty.results (innermost begun) base labels (number + 1)

    -- the entries of the step, before control settles
    abbrev first_entries : (number : ℕ) → List Entry
    first_entries number = Step base.func number args [] None ∷ Enter func ∷ []

    enters : (labels : List Label) (number : ℕ) (d : Option Definition) (own : SettleResult)
        → definition (code_of m) func ≡ d
        → enter_defined (Some ty) d beside [] func args (InModule (waiting labels number) ∷ below)
        ≡ after_settling beside [] own
        → MakesStep laws m plan code (call_place labels number)
        (at_point base (point (reverse args ++ []) labels (Plain (Call func) after_call) number)) below store counts
        (func ∷ base.func ∷ inside) (HostCall func args ∷ []) (first_entries number) own
        segments 2 begun
    enters labels number d own defined entered =
        record {
          stands = refl;
          makes =
              ap (λ o. after_instruction (watched m code).program config frame below
              (on o (λ (ty : FuncType). takes frame ty.params
              (λ operands rest. calls frame (place after_call (number + 1)) operands rest None func operands))))
              (is.shares.signatures func ty typed)
              ∙ ap (λ o. after_instruction (watched m code).program config frame below
              (on o (λ (p : Operands). calls frame
              (place after_call (number + 1)) p.operands p.rest None func p.operands)))
              (pops_pushed ty.params args [] given)
              ∙ ap (λ b. after_entries (Step base.func number args [] None ∷ [])
              (call_function (watched m code).program b beside [] func args
              (InModule (waiting labels number) ∷ below))) (none_imported m plan code is func)
              ∙ ap (λ o. after_entries (first_entries number)
              (enter_defined o (definition code func) beside [] func args
              (InModule (waiting labels number) ∷ below))) (is.shares.signatures func ty typed)
              ∙ ap (λ o. after_entries (first_entries number)
              (enter_defined (Some ty) o beside [] func args (InModule (waiting labels number) ∷ below)))
              (is.originals func past_imports (below_start m func ty typed) ∙ defined)
              ∙ ap (after_entries (first_entries number)) entered;
          shows = λ given'.
              ap (λ (d : Side). shown_step d (Step base.func number args [] None)
              ++ (shown_call (side (layout_of m) base.func) (side (layout_of m) func) func args ++ []))
              (appended_side m base.func past)
              ∙ ap (λ d. shown_call d (side (layout_of m) func) func args ++ []) (appended_side m base.func past)
              ∙ ap (λ d. shown_call Appended d func args ++ []) func_side;
          control = refl;
          known = inl base_outside;
          quiet = λ outside. refl;
          stretch = λ s here. (refl, refl);
          bounded = λ later keeps rest c.
              bounded_before plan begun (left_of (imported_funcs m) segments).calls (imported_funcs m) 0 2
              (Steps false ∷ []) (map Makes (HostCall func args ∷ later) ++ rest) refl (omega arith) refl
              (made_bounded plan 0 (imported_funcs m) begun (left_of (imported_funcs m) segments).calls
              (HostCall func args ∷ []) later rest keeps c);
        }
      where
        frame : Frame
        frame = at_point base (point (reverse args ++ []) labels (Plain (Call func) after_call) number)

        config : Config
        config = (call_place labels number).config

    pub calls_original : (labels : List Label) (number : ℕ)
        → Follows m plan code premise (WithinBy m plan 2 begun segments) (call_place labels number)
        (after_next (code_of m) store counts stack segments came (Calls func args))
    calls_original labels number = go (definition (code_of m) func) refl
      where
        Called : StepResult → Type 0
        Called r =
            Follows m plan code premise (WithinBy m plan 2 begun segments) (call_place labels number)
            (after_step segments came (after_entries (HostCall func args ∷ []) r))

        to : (d : Option Definition) → definition (code_of m) func ≡ d
            → Called (enter_defined (Some ty) d store counts func args stack)
            → Called (enter_function (code_of m) store counts func args stack)
        to d e =
            subst Called
            (sym (ap (λ o. enter_defined o (definition (code_of m) func) store counts func args stack) typed
            ∙ ap (λ o. enter_defined (Some ty) o store counts func args stack) e))

        go : (d : Option Definition) → definition (code_of m) func ≡ d
            → Called (enter_function (code_of m) store counts func args stack)
        go None e =
            to None e
            (follows_settled laws m plan code (call_place labels number) _ below store counts
            (func ∷ base.func ∷ inside)
            (HostCall func args ∷ []) (first_entries number) (settle_result [] NoneHolds) (settle_result [] NoneHolds)
            (imports_in stack) segments came premise 2 begun
            (enters labels number None (settle_result [] NoneHolds) e refl)
            (none_settles m begun (imports_in stack) (func ∷ base.func ∷ inside)) played)
        go (Some d) e =
            let entered = frame_of func ty d args in
            to (Some d) e
            (follows_settled laws m plan code (call_place labels number) _ below store counts
            (func ∷ base.func ∷ inside)
            (HostCall func args ∷ []) (first_entries number) (deliver (InModule entered ∷ stack) [])
            (deliver (InModule entered ∷ InModule (waiting labels number) ∷ below) []) (imports_in stack) segments came
            premise 2 begun (enters labels number (Some d)
            (deliver (InModule entered ∷ InModule (waiting labels number) ∷ below) []) e refl)
            (settled m begun stack (InModule (waiting labels number) ∷ below)
            (base.func ∷ inside) entered ty [] typed refl
            past_imports (again labels (number + 1))
            (λ results count. returned m played.one begun ty.results (played.one func ty typed) stack
            (InModule (waiting labels number) ∷ below)
            (base.func ∷ inside) (again labels (number + 1)) func results func_side count))
            played)
