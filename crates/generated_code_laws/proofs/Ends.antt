-- The activation of the host ends with its segment: an import returns, the host's work ends, or the host traps.
use Rattle.std.proofs.Common.{◌≡◌, ℕ, ◌<◌, ◌≤◌, List, [], ◌∷◌, ◌++◌, length, reverse, Option, None, false, refl, sym, ap, ◌∙◌, subst, arith, append-nil, inl, option_to_list}
use Rattle.std.specs.Prelude.{map}
use Rattle.wasm_syntax.specs.declared.values.Val.{Val}
use Rattle.wasm_syntax.specs.declared.signatures.FuncType.{FuncType}
use Rattle.wasm_syntax.specs.declared.instructions.Instr.TheVariants.{Return, Unreachable}
use Rattle.wasm_syntax.specs.declared.modules.Module.{Module}
use Rattle.wasm_syntax.specs.Nest.{Empty, Plain}
use Rattle.wasm_syntax.specs.Index.{imported_funcs}
use Rattle.host_script.specs.declared.scripts.ResponseEnd.TheVariants.{Trap as EndsInTrap}
use Rattle.base.specs.declared.outcomes.Outcome.TheVariants.{Ended, HostTrapped, Trapped}
use Rattle.trace_model.specs.declared.tapes.Next.TheVariants.{Return as Gives}
use Rattle.trace_model.specs.declared.tapes.Origin.{Origin}
use Rattle.trace_model.specs.declared.tapes.Segment.{Segment}
use Rattle.history_spec.specs.declared.entries.Entry.{Entry}
use Rattle.history_spec.specs.declared.entries.Entry.TheVariants.{Exit, HostReturn, HostTrap, ImportReturn, Step, Trap}
use Rattle.history_spec.specs.declared.entries.TrapKind.TheVariants.{Unreachable as ByUnreachable}
use Rattle.history_spec.specs.Code.{Code, code_of}
use Rattle.history_spec.specs.Store.{Store}
use Rattle.history_spec.specs.Configuration.{Label, Frame, Activation, InModule, InMain, InImport, point, at_point, topmost}
use Rattle.history_spec.specs.Instruction.{to_caller}
use Rattle.history_spec.specs.Settle.{deliver}
use Rattle.history_spec.specs.Step.{after_entries, after_instruction, after_settling}
use Rattle.history_spec.specs.Projection.{Side, Import, Original, Appended, side, shown_return, shown_step, shown_trap, trapped_on}
use Rattle.replay_module_spec.specs.declared.plans.Plan.{Plan}
use Rattle.replay_module_spec.specs.Plans.{left_of}
use Rattle.replay_module_spec.specs.Fragments.{start_index}
use Rattle.record_replay_spec.specs.TapeRun.{pause, after_next}
use Rattle.replay_run_spec.specs.Items.{Steps, Makes}
use Rattle.replay_run_spec.specs.Steps.{steps_left}
use Rattle.generated_code_laws.specs.Leads.{Place, Leads, InPlace, Behind, Standing, standing}
use Rattle.generated_code_laws.specs.Ends.{Ends}
use Rattle.replay_module_spec.specs.Merge.{layout_of}
use Rattle.replay_module_laws.specs.Stores.{counters, with_own}
use Rattle.generated_code_laws.proofs.Relation.{AreBeside, Runs, imports_in, returning_frame, watched, host_standing}
use Rattle.generated_code_laws.proofs.Sides.{appended_side, below_start, import_side, original_side}
use Rattle.generated_code_laws.proofs.Settled.{delivered, returned, settled}
use Rattle.generated_code_laws.proofs.Codes.{topmost_pushed}
use Rattle.generated_code_laws.proofs.AnsweredCalls.{step_alone}
use Rattle.generated_code_laws.proofs.Together.{Ending, none_first, IsPlayed, IsEnded, Follows}
use Rattle.generated_code_laws.proofs.Bounded.{bounded_before, bounded_return, made_bounded, none_bounded}
use Rattle.generated_code_laws.proofs.Parts.{follows_after, follows_settled}
use Rattle.generated_code_laws.specs.Below.{RunLaws}

module _ (laws : RunLaws) (m : Module) (plan : Plan) (code : Code) (store : Store) (counts : List ℕ) where
  abbrev beside : Store
  beside = with_own (counters counts) store

  -- ---- an import returns

  module _ (import : ℕ) (args : List Val) (ty : FuncType) (caller base behind : Frame) (behind_labels : List Label)
      (behind_number : ℕ) (stack own : List Activation) (inside : List ℕ) (segments : List Segment) (came : Origin)
      (premise : Type 0)
      (result : Option Val) (below_imports : import < imported_funcs m) (past : start_index m < base.func)
      (arity : base.arity ≡ length ty.results) (func : behind.func ≡ import)
      (behind_arity : behind.arity ≡ length ty.results)
      (count : length (option_to_list result) ≡ length ty.results)
      (under : AreBeside m ty.results (InModule caller ∷ stack) (left_of (imported_funcs m) segments).begun own inside)
      (played : IsPlayed m plan store counts (imports_in stack) segments) where
    abbrev results : List Val
    results = option_to_list result

    abbrev others : List Activation
    others = InModule (returning_frame behind behind_labels behind_number) ∷ own

    abbrev s : Standing
    s = record { frame = base; below = others; counts = []; inside = base.func ∷ behind.func ∷ inside }

    behind_side : side (layout_of m) behind.func ≡ Import
    behind_side = ap (side (layout_of m)) func ∙ import_side m import below_imports

    -- the activation in the import's place has the results
    abbrev behind_frame : Frame
    behind_frame = at_point behind (point (reverse results) behind_labels (Plain Return Empty) behind_number)

    abbrev behind_place : Place
    behind_place =
        record {
          config = record { store = beside; stack = InModule behind_frame ∷ own; counts = [] };
          inside = behind.func ∷ inside;
        }

    group_returns : (labels : List Label) (number : ℕ)
        → Leads (watched m code) (standing s beside (reverse results ++ []) labels (Plain Return Empty) number)
        (Steps false ∷ []) behind_place
    group_returns labels number =
        subst (λ items. Leads (watched m code) here items behind_place)
        (step_alone (watched m code) here frame Return Empty [] refl refl)
        ((laws.single.leads (watched m code) here frame others entries [] behind_place
        (record {
          stands = refl;
          makes =
              ap (λ o. after_instruction (watched m code).program here.config frame others (to_caller [] o))
              (topmost_pushed results [] base.arity (arity ∙ sym count))
              ∙ ap (λ r. after_entries entries (after_settling beside [] r))
              (delivered m behind behind_labels (Plain Return Empty) behind_number results own tt);
          shows = λ given.
              ap (λ (d : Side). shown_step d (Step base.func number [] [] None)
              ++ (shown_return (side (layout_of m) behind.func) (side (layout_of m) base.func) base.func results
              ++ [])) (appended_side m base.func (omega (arith, past)))
              ∙ ap (λ d. shown_return d (side (layout_of m) base.func) base.func results ++ []) behind_side
              ∙ ap (λ d. shown_return Import d base.func results ++ [])
              (appended_side m base.func (omega (arith, past)));
          control = refl;
        })).0 (Behind (appended_side m base.func (omega (arith, past)))))
      where
        here : Place
        here = standing s beside (reverse results ++ []) labels (Plain Return Empty) number

        frame : Frame
        frame = at_point base (point (reverse results ++ []) labels (Plain Return Empty) number)

        entries : List Entry
        entries = Step base.func number [] [] None ∷ Exit base.func results ∷ []

    import_returns : Follows m plan code premise (Ending m plan 1 segments) behind_place
        (after_next (code_of m) store counts (InImport import args (pause ∷ []) EndsInTrap ∷ InModule caller ∷ stack)
        segments came (Gives result))
    import_returns = go own inside under
      where
        go : (own : List Activation) (inside : List ℕ)
            → AreBeside m ty.results (InModule caller ∷ stack) (left_of (imported_funcs m) segments).begun own inside
            → Follows m plan code premise (Ending m plan 1 segments)
            (record {
              config = record { store = beside; stack = InModule behind_frame ∷ own; counts = [] };
              inside = behind.func ∷ inside;
            })
            (after_next (code_of m) store counts
            (InImport import args (pause ∷ []) EndsInTrap ∷ InModule caller ∷ stack)
            segments came (Gives result))
        go _ _ (Runs _ own inside _ ty' typed caller_arity caller_past beneath) =
            let begun = (left_of (imported_funcs m) segments).begun in
            let caller_side = original_side m caller.func caller_past (below_start m caller.func ty' typed) in
            follows_settled laws m plan code
            (record {
              config = record { store = beside; stack = InModule behind_frame ∷ InModule caller ∷ own; counts = [] };
              inside = behind.func ∷ caller.func ∷ inside;
            })
            behind_frame (InModule caller ∷ own) store counts (caller.func ∷ inside) (ImportReturn import results ∷ [])
            (Step behind.func behind_number [] [] None ∷ Exit behind.func results ∷ [])
            (deliver (InModule caller ∷ stack) results) (deliver (InModule caller ∷ own) results)
            (imports_in stack) segments came premise 1 ([] ∷ begun)
            (record {
              stands = refl;
              makes =
                  ap (λ o. after_instruction (watched m code).program
                  (record { store = beside; stack = InModule behind_frame ∷ InModule caller ∷ own; counts = [] })
                  behind_frame (InModule caller ∷ own) (to_caller [] o))
                  (ap (topmost behind.arity) (sym (append-nil (reverse results)))
                  ∙ topmost_pushed results [] behind.arity (behind_arity ∙ sym count));
              shows = λ given.
                  ap (λ (d : Side). shown_step d (Step behind.func behind_number [] [] None)
                  ++ (shown_return (side (layout_of m) caller.func)
                  (side (layout_of m) behind.func) behind.func results ++ [])) behind_side
                  ∙ ap (λ d. shown_return d (side (layout_of m) behind.func) behind.func results ++ []) caller_side
                  ∙ ap (λ d. shown_return Original d behind.func results ++ []) behind_side
                  ∙ ap (λ f. ImportReturn f results ∷ []) func;
              control = refl;
              known = inl (InPlace behind_side);
              quiet = λ outside. refl;
              stretch = λ s here. (refl, refl);
              bounded = λ later keeps rest c.
                  bounded_before plan ([] ∷ begun) (left_of (imported_funcs m) segments).calls (imported_funcs m) 0 1
                  (Steps false ∷ []) (map Makes (ImportReturn import results ∷ later) ++ rest) refl (omega arith) refl
                  (made_bounded plan 0 (imported_funcs m) ([] ∷ begun) (left_of (imported_funcs m) segments).calls
                  (ImportReturn import results ∷ []) later rest keeps
                  (bounded_return plan begun (left_of (imported_funcs m) segments).calls (imported_funcs m) import
                  (steps_left (imported_funcs m) rest) c));
            })
            (settled m begun stack own inside caller ty' results typed caller_arity caller_past beneath
            (λ given total. returned m played.one begun ty'.results
            (played.one caller.func ty' typed) stack own inside beneath caller.func given caller_side total))
            played

    pub returns_result : (labels : List Label) (number : ℕ)
        → Follows m plan code premise (Ending m plan 2 segments)
        (standing s beside (reverse results ++ []) labels (Plain Return Empty) number)
        (after_next (code_of m) store counts (InImport import args (pause ∷ []) EndsInTrap ∷ InModule caller ∷ stack)
        segments came (Gives result))
    returns_result labels number =
        let r =
        after_next (code_of m) store counts (InImport import args (pause ∷ []) EndsInTrap ∷ InModule caller ∷ stack)
        segments came (Gives result) in
        follows_after laws m plan code premise (Ending m plan 1 segments)
        (Ending m plan 2 segments)
        (standing s beside (reverse results ++ []) labels (Plain Return Empty) number)
        behind_place (Steps false ∷ []) (group_returns labels number) refl
        (λ pr rest c. c)
        (λ rest c. bounded_before plan ([] ∷ (left_of (imported_funcs m) segments).begun)
        (left_of (imported_funcs m) segments).calls (imported_funcs m) 1 2 (Steps false ∷ []) rest refl (omega arith)
        refl c) r.entries r.next import_returns

  -- ---- the run is over

  module _ (base : Frame) (labels : List Label) (number : ℕ) (below : List Activation) (inside : List ℕ)
      (past : start_index m ≤ base.func) (segments : List Segment) (premise : Type 0) where
    abbrev top : Standing
    top = record { frame = base; below = below; counts = []; inside = base.func ∷ inside }

    -- the host traps
    pub traps : IsEnded m code premise (Ending m plan 7 segments)
        (standing top beside [] labels (Plain Unreachable Empty) number)
        (HostTrap ∷ []) HostTrapped
    traps =
        record {
          items = Steps false ∷ Makes HostTrap ∷ [];
          ends = subst (λ items. Ends (watched m code) here items HostTrapped)
              (step_alone (watched m code) here frame Unreachable Empty (HostTrap ∷ []) refl refl)
              ((laws.single.ends (watched m code) here frame below entries (HostTrap ∷ []) Trapped HostTrapped
              (base.func ∷ inside)
              (record {
                stands = refl;
                makes = refl;
                shows = λ given. ap (λ d. shown_trap d (Trap base.func number ByUnreachable [] None) ∷ []) (appended_side m base.func past);
                control = refl;
              }) (ap trapped_on (appended_side m base.func past))).0 (Behind (appended_side m base.func past)));
          shown = refl;
          claimed = λ pr. (refl, none_first segments);
          bounded =
              bounded_before plan ([] ∷ (left_of (imported_funcs m) segments).begun)
              (left_of (imported_funcs m) segments).calls (imported_funcs m) 0 7 (Steps false ∷ [])
              (Makes HostTrap ∷ []) refl (omega arith) refl
              (none_bounded plan ([] ∷ (left_of (imported_funcs m) segments).begun)
              (left_of (imported_funcs m) segments).calls (imported_funcs m));
        }
      where
        here : Place
        here = standing top beside [] labels (Plain Unreachable Empty) number

        frame : Frame
        frame = at_point base (point [] labels (Plain Unreachable Empty) number)

        entries : List Entry
        entries = Trap base.func number ByUnreachable [] None ∷ []

  -- the host's work ends
  pub work_ends : (segments : List Segment) (premise : Type 0) (base : Frame) (labels : List Label) (number : ℕ)
      → start_index m ≤ base.func → base.arity ≡ 0
      → IsEnded m code premise (Ending m plan 7 segments)
      (standing (host_standing base (InMain [] ∷ []) []) beside [] labels
      (Plain Return Empty) number) [] Ended
  work_ends segments premise base labels number past arity =
      record {
        items = Steps false ∷ [];
        ends = subst (λ items. Ends (watched m code) here items Ended)
            (step_alone (watched m code) here frame Return Empty [] refl refl)
            ((laws.single.ends (watched m code) here frame (InMain [] ∷ []) entries [] Ended Ended []
            (record {
              stands = refl;
              makes =
                  ap (λ n. after_instruction (watched m code).program here.config frame (InMain [] ∷ [])
                  (to_caller [] (topmost n []))) arity;
              shows = λ given.
                  ap (λ (d : Side). shown_step d (Step base.func number [] [] None)
                  ++ (shown_return Appended (side (layout_of m) base.func) base.func [] ++ [])) (appended_side m base.func past)
                  ∙ ap (λ d. shown_return Appended d base.func [] ++ []) (appended_side m base.func past);
              control = refl;
            }) refl).0 (Behind (appended_side m base.func past)));
        shown = refl;
        claimed = λ pr. (refl, none_first segments);
        bounded =
            bounded_before plan ([] ∷ (left_of (imported_funcs m) segments).begun)
            (left_of (imported_funcs m) segments).calls (imported_funcs m) 0 7 (Steps false ∷ []) [] refl (omega arith)
            refl
            (none_bounded plan ([] ∷ (left_of (imported_funcs m) segments).begun)
            (left_of (imported_funcs m) segments).calls (imported_funcs m));
      }
    where
      here : Place
      here =
          standing (host_standing base (InMain [] ∷ []) []) beside []
          labels
          (Plain Return Empty) number

      frame : Frame
      frame = at_point base (point [] labels (Plain Return Empty) number)

      entries : List Entry
      entries = Step base.func number [] [] None ∷ HostReturn base.func [] ∷ []
