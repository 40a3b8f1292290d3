-- A step of the module in the tape's run, which the replay module's run makes too.
use Rattle.std.proofs.Common.{◌≡◌, ℕ, zero, suc, ◌<◌, ◌≤◌, List, [], ◌∷◌, ◌++◌, length, Option, Some, None, Bool, true, false, nat_lt, slice_get, slice_index, replicate, refl, sym, ap, ◌∙◌, subst, arith, inr, option_and_then}
use Rattle.std.specs.Prelude.{map}
use Rattle.std.proofs.lemmas.Bool.Decides.{nat_tests}
use Rattle.wasm_syntax.specs.declared.values.Val.{Val}
use Rattle.wasm_syntax.specs.declared.values.ValType.{ValType}
use Rattle.wasm_syntax.specs.declared.signatures.FuncType.{FuncType}
use Rattle.wasm_syntax.specs.declared.modules.Module.{Module}
use Rattle.wasm_syntax.specs.Index.{imported_funcs}
use Rattle.host_script.specs.declared.scripts.ResponseEnd.TheVariants.{Trap as EndsInTrap}
use Rattle.base.specs.declared.outcomes.Outcome.TheVariants.{Trapped}
use Rattle.trace_model.specs.declared.tapes.Origin.{Origin}
use Rattle.trace_model.specs.declared.tapes.Segment.{Segment}
use Rattle.history_spec.specs.declared.entries.Entry.{Entry}
use Rattle.history_spec.specs.declared.entries.Entry.TheVariants.{Enter, ImportCall, Step, Trap}
use Rattle.history_spec.specs.declared.entries.TrapKind.{TrapKind}
use Rattle.history_spec.specs.Code.{Code, Definition, code_of, definition, signature}
use Rattle.history_spec.specs.Store.{Store}
use Rattle.history_spec.specs.Configuration.{Config, Frame, Activation, InModule}
use Rattle.history_spec.specs.Instruction.{Execution, Did, Traps, NoRule, Goes, Calls, Returns, execute}
use Rattle.history_spec.specs.Settle.{NoRule as NoneHolds, SettleResult, after_entry, return_entry, settle_result, deliver}
use Rattle.history_spec.specs.Step.{after_entries, after_instruction, after_settling, answer_call, call_function, enter_defined, enter_function, frame_of, response_of, response_to, step}
use Rattle.history_spec.specs.Projection.{Side, Original, side, call_args, shown_call, shown_step, shown_trap, trapped_on, Import}
use Rattle.replay_module_spec.specs.declared.plans.Plan.{Plan}
use Rattle.replay_module_spec.specs.Plans.{left_of}
use Rattle.record_replay_spec.specs.TapeRun.{pause, awaiting_answer, program_awaiting, after_step}
use Rattle.record_replay_spec.specs.Executions.{IsCallOf, IsSameActivation}
use Rattle.record_replay_spec.specs.ObservedStepLaws.{observed}
use Rattle.replay_run_spec.specs.Items.{Makes}
use Rattle.generated_code_laws.specs.Leads.{Place}
use Rattle.replay_module_spec.specs.Merge.{layout_of}
use Rattle.replay_module_laws.specs.Stores.{counters, with_own}
use Rattle.replay_module_laws.specs.Codes.{IsDefined, IsReplayCode, import_definition}
use Rattle.generated_code_laws.proofs.Relation.{AreBeside, Runs, imports_in, own_place, watched}
use Rattle.generated_code_laws.proofs.Shared.{IsBeside, executed_beside}
use Rattle.generated_code_laws.proofs.Sides.{below_start, import_side, never_outside, none_imported, original_side}
use Rattle.generated_code_laws.proofs.Sound.{IsSound, changes_sound}
use Rattle.generated_code_laws.proofs.Settled.{none_settles, returned, settled}
use Rattle.generated_code_laws.proofs.Together.{Within, none_first, AtCall, IsPlayed, IsEnded, Follows, at_call}
use Rattle.generated_code_laws.proofs.Bounded.{made_bounded, none_bounded}
use Rattle.generated_code_laws.proofs.Parts.{MakesStep, follows_settled, nothing_shown}
use Rattle.generated_code_laws.specs.Below.{RunLaws, InstructionLaws}
use Rattle.generated_code_laws.proofs.Singles.{entries_made}

repeated_there : {X : Type 0} (count i : ℕ) (x : X) → i < count → slice_get (replicate count x) i ≡ Some x
repeated_there zero i x below = absurd (omega (arith, below))
repeated_there (suc count) zero x below = refl
repeated_there (suc count) (suc i) x below = repeated_there count i x (omega (arith, below))

module _ (laws : RunLaws) (instructions : InstructionLaws) (m : Module) (plan : Plan) (code : Code)
    (is : IsReplayCode m plan code) (store : Store) (frame : Frame) (stack : List Activation) (counts : List ℕ)
    (segments : List Segment) (came : Origin) (played : IsPlayed m plan store counts (imports_in stack) segments)
    (own : List Activation) (inside : List ℕ) (ty : FuncType) (typed : signature (code_of m) frame.func ≡ Some ty)
    (arity : frame.arity ≡ length ty.results) (past : imported_funcs m ≤ frame.func)
    (under : AreBeside m ty.results stack (left_of (imported_funcs m) segments).begun own inside) where
  abbrev begun : List (List Segment)
  begun = (left_of (imported_funcs m) segments).begun

  abbrev here : Place
  here = own_place store counts (InModule frame ∷ own) (frame.func ∷ inside)

  abbrev tape_configuration : Config
  tape_configuration = record { store = store; stack = InModule frame ∷ stack; counts = counts }

  own_side : side (layout_of m) frame.func ≡ Original
  own_side = original_side m frame.func past (below_start m frame.func ty typed)

  abbrev step_entry : (operands results : List Val) → (found : Option ℕ) → Entry
  step_entry operands results found = Step frame.func frame.at.number operands results found

  -- a function of the original remains typed, entered or waiting
  module _ (next : Frame) (same : IsSameActivation frame next) where
    same_typed : signature (code_of m) next.func ≡ Some ty
    same_typed = ap (signature (code_of m)) same.func ∙ typed

    same_past : imported_funcs m ≤ next.func
    same_past = subst (λ f. imported_funcs m ≤ f) (sym same.func) past

    waits : {awaited : List ValType}
        → AreBeside m awaited (InModule next ∷ stack) begun (InModule next ∷ own) (next.func ∷ inside)
    waits = Runs stack own inside next ty same_typed (same.arity ∙ arity) same_past under

  -- ---- control goes on in the activation, or leaves it

  -- a step of the original, by its result before that settles
  one_step : (operands results : List Val) (found : Option ℕ) (after : Store) (now : List ℕ) (to : SettleResult)
      → step (watched m code).program here.config
      ≡ after_entries (step_entry operands results found ∷ []) (after_settling (with_own (counters counts) after) [] to)
      → frame.func ∷ inside ≡ now
      → MakesStep laws m plan code here frame own after counts now (step_entry operands results found ∷ [])
      (step_entry operands results found ∷ []) to segments 0 begun
  one_step operands results found after now to makes control =
      record {
        stands = refl;
        makes = makes;
        shows = λ args. ap (λ d. shown_step d (step_entry operands results found) ++ []) own_side;
        control = control;
        known = inr own_side;
        quiet = λ outside. absurd (never_outside m frame.func own_side outside);
        stretch = λ s here. (here, refl);
        bounded = λ later keeps rest c.
            made_bounded plan 0 (imported_funcs m) begun (left_of (imported_funcs m) segments).calls
            (step_entry operands results found ∷ []) later rest keeps c;
      }

  goes_on : (operands results : List Val) (found : Option ℕ) (after : Store) (next : Frame)
      → execute code (with_own (counters counts) store) frame
      ≡ Did operands results found (Goes (with_own (counters counts) after) next)
      → IsSameActivation frame next → IsSound m after
      → Follows m plan code (Unit {0}) (Within m plan segments) here
      (after_step segments came
      (after_instruction (program_awaiting (code_of m)) tape_configuration frame stack
      (Did operands results found (Goes after next))))
  goes_on operands results found after next e same sound =
      follows_settled laws m plan code here frame own after counts (next.func ∷ inside)
      (step_entry operands results found ∷ []) (step_entry operands results found ∷ [])
      (deliver (InModule next ∷ stack) []) (deliver (InModule next ∷ own) []) (imports_in stack) segments came
      (Unit {0}) 0 begun
      (one_step operands results found after (next.func ∷ inside) (deliver (InModule next ∷ own) [])
      (ap (after_instruction (watched m code).program here.config frame own) e) (ap (λ f. f ∷ inside) (sym same.func)))
      (settled m begun stack own inside next ty [] (same_typed next same) (same.arity ∙ arity)
      (same_past next same) under
      (λ given count. returned m played.one begun ty.results (played.one frame.func ty typed) stack own inside
      under next.func given
      (ap (side (layout_of m)) same.func ∙ own_side) count))
      (record { one = played.one; sound = sound; many = played.many; fits = played.fits; calls = played.calls })

  leaves : (operands results : List Val) (found : Option ℕ) (given : List Val)
      → execute code (with_own (counters counts) store) frame ≡ Did operands results found (Returns given)
      → length given ≡ frame.arity
      → Follows m plan code (Unit {0}) (Within m plan segments) here
      (after_step segments came
      (after_instruction (program_awaiting (code_of m)) tape_configuration frame stack
      (Did operands results found (Returns given))))
  leaves operands results found given e count =
      follows_settled laws m plan code here frame own store counts (frame.func ∷ inside)
      (step_entry operands results found ∷ []) (step_entry operands results found ∷ [])
      (after_entry (return_entry frame.func given stack) (deliver stack given))
      (after_entry (return_entry frame.func given own) (deliver own given)) (imports_in stack) segments came
      (Unit {0}) 0 begun
      (one_step operands results found store (frame.func ∷ inside) (after_entry (return_entry frame.func given own) (deliver own given))
      (ap (after_instruction (watched m code).program here.config frame own) e) refl)
      (returned m played.one begun ty.results (played.one frame.func ty typed) stack own inside under
      frame.func given own_side (count ∙ arity)) played

  -- ---- a call of a function of the original

  module _ (operands results : List Val) (found : Option ℕ) (waiting : Frame) (func : ℕ) (args : List Val)
      (e : execute code (with_own (counters counts) store) frame ≡ Did operands results found (Calls waiting func args))
      (same : IsSameActivation frame waiting) (call : IsCallOf (code_of m) operands found func args) where
    abbrev call_entries : List Entry
    call_entries = step_entry operands results found ∷ Enter func ∷ []

    abbrev callee : FuncType
    callee = call.arguments.ty

    -- the function is entered with this body
    makes_call : (d : Option Definition) → signature code func ≡ Some callee → definition code func ≡ d
        → after_instruction (watched m code).program here.config frame own
        (execute code (with_own (counters counts) store) frame)
        ≡ after_entries call_entries
        (enter_defined (Some callee) d (with_own (counters counts) store) [] func args (InModule waiting ∷ own))
    makes_call d has_type defined =
        ap (after_instruction (watched m code).program here.config frame own) e
        ∙ ap (λ b. after_entries (step_entry operands results found ∷ [])
        (call_function (watched m code).program b (with_own (counters counts) store) [] func args
        (InModule waiting ∷ own))) (none_imported m plan code is func)
        ∙ ap (λ o. after_entries call_entries
        (enter_defined o (definition code func) (with_own (counters counts) store) [] func args
        (InModule waiting ∷ own))) has_type
        ∙ ap (λ o. after_entries call_entries
        (enter_defined (Some callee) o (with_own (counters counts) store) [] func args (InModule waiting ∷ own))) defined

    -- the entries that a call shows, by the side of the function
    shows_call : (callee_side : Side) → side (layout_of m) func ≡ callee_side
        → shown_step (side (layout_of m) frame.func) (step_entry operands results found)
        ++ (shown_call (side (layout_of m) frame.func) (side (layout_of m) func) func (call_args operands found) ++ [])
        ≡ step_entry operands results found ∷ (shown_call Original callee_side func (call_args operands found) ++ [])
    shows_call callee_side is_side =
        ap (λ (d : Side). shown_step d (step_entry operands results found)
        ++ (shown_call (side (layout_of m) frame.func) (side (layout_of m) func) func
        (call_args operands found) ++ [])) own_side
        ∙ ap (λ d. step_entry operands results found ∷
        (shown_call d (side (layout_of m) func) func (call_args operands found) ++ [])) own_side
        ∙ ap (λ d. step_entry operands results found ∷
        (shown_call Original d func (call_args operands found) ++ [])) is_side

    enters : (stays : imported_funcs m ≤ func) (d : Option Definition) (own_result : SettleResult)
        → definition (code_of m) func ≡ d
        → enter_defined (Some callee) d (with_own (counters counts) store) [] func args (InModule waiting ∷ own)
        ≡ after_settling (with_own (counters counts) store) [] own_result
        → MakesStep laws m plan code here frame own store counts
        (func ∷ waiting.func ∷ inside) call_entries call_entries
        own_result segments 0 begun
    enters stays d own_result defined entered =
        record {
          stands = refl;
          makes =
              makes_call d (is.shares.signatures func callee call.arguments.has_type)
              (is.originals func stays (below_start m func callee call.arguments.has_type) ∙ defined)
              ∙ ap (after_entries call_entries) entered;
          shows = λ given.
              shows_call Original (original_side m func stays (below_start m func callee call.arguments.has_type));
          control = ap (λ f. func ∷ f ∷ inside) (sym same.func);
          known = inr own_side;
          quiet = λ outside. absurd (never_outside m frame.func own_side outside);
          stretch = λ s here. (here, refl);
          bounded = λ later keeps rest c.
              made_bounded plan 0 (imported_funcs m) begun (left_of (imported_funcs m) segments).calls
              (call_entries) later rest keeps c;
        }

    calls_own : imported_funcs m ≤ func
        → Follows m plan code (Unit {0}) (Within m plan segments) here
        (after_step segments came
        (after_entries (step_entry operands results found ∷ [])
        (call_function (program_awaiting (code_of m)) false store counts func args (InModule waiting ∷ stack))))
    calls_own stays = go (definition (code_of m) func) refl
      where
        whole : (d : Option Definition) → definition (code_of m) func ≡ d
            → enter_function (code_of m) store counts func args (InModule waiting ∷ stack)
            ≡ enter_defined (Some callee) d store counts func args (InModule waiting ∷ stack)
        whole d q =
            ap (λ o. enter_defined o (definition (code_of m) func) store counts func args (InModule waiting ∷ stack))
            call.arguments.has_type
            ∙ ap (λ o. enter_defined (Some callee) o store counts func args (InModule waiting ∷ stack)) q

        callee_side : side (layout_of m) func ≡ Original
        callee_side = original_side m func stays (below_start m func callee call.arguments.has_type)

        go : (d : Option Definition) → definition (code_of m) func ≡ d
            → Follows m plan code (Unit {0}) (Within m plan segments) here
            (after_step segments came
            (after_entries (step_entry operands results found ∷ [])
            (call_function (program_awaiting (code_of m)) false store counts func args (InModule waiting ∷ stack))))
        go None q =
            subst (λ r. Follows m plan code (Unit {0}) (Within m plan segments) here
            (after_step segments came (after_entries call_entries r)))
            (sym (whole None q))
            (follows_settled laws m plan code here frame own store counts (func ∷ waiting.func ∷ inside) call_entries
            call_entries (settle_result [] NoneHolds) (settle_result [] NoneHolds) (imports_in stack) segments came
            (Unit {0}) 0 begun (enters stays None (settle_result [] NoneHolds) q refl)
            (none_settles m begun (imports_in stack) (func ∷ waiting.func ∷ inside)) played)
        go (Some d) q =
            let entered = frame_of func callee d args in
            let waits_here = waits waiting same in
            subst (λ r. Follows m plan code (Unit {0}) (Within m plan segments) here
            (after_step segments came (after_entries call_entries r)))
            (sym (whole (Some d) q))
            (follows_settled laws m plan code here frame own store counts (func ∷ waiting.func ∷ inside) call_entries
            call_entries (deliver (InModule entered ∷ InModule waiting ∷ stack) [])
            (deliver (InModule entered ∷ InModule waiting ∷ own) []) (imports_in stack) segments came
            (Unit {0}) 0 begun (enters stays (Some d) (deliver (InModule entered ∷ InModule waiting ∷ own) []) q refl)
            (settled m begun (InModule waiting ∷ stack) (InModule waiting ∷ own)
            (waiting.func ∷ inside) entered callee []
            call.arguments.has_type refl stays waits_here
            (λ given count. returned m played.one begun callee.results
            (played.one func callee call.arguments.has_type) (InModule waiting ∷ stack) (InModule waiting ∷ own)
            (waiting.func ∷ inside) waits_here func given callee_side count))
            played)

    -- ---- a call of an import

    response_there : func < imported_funcs m
        → response_to (program_awaiting (code_of m)).answers func (slice_index counts func)
        ≡ Some (record { actions = pause ∷ []; end = EndsInTrap })
    response_there below =
        ap (λ o. option_and_then (λ answer. response_of answer (slice_index counts func)) (option_and_then (λ a. a) o))
        (repeated_there (imported_funcs m) func (Some awaiting_answer) below)

    calls_import : func < imported_funcs m
        → Follows m plan code (Unit {0}) (Within m plan segments) here
        (after_step segments came
        (after_entries (step_entry operands results found ∷ [])
        (call_function (program_awaiting (code_of m)) true store counts func args (InModule waiting ∷ stack))))
    calls_import below =
        subst
        (λ o. Follows m plan code (Unit {0}) (Within m plan segments) here
        (after_step segments came
        (after_entries (step_entry operands results found ∷ [])
        (answer_call o store counts func args (InModule waiting ∷ stack)))))
        (sym (response_there below))
        (record {
          next = end;
          items = map Makes shown;
          leads =
              (laws.single.leads (watched m code) here frame own call_entries shown end
              (record {
                stands = refl;
                makes = makes_call _ body.has_type body.is;
                shows = λ given.
                    shows_call Import (import_side m func below)
                    ∙ ap (λ l. step_entry operands results found ∷ ImportCall func l ∷ []) (sym call.given);
                control = ap (λ f. func ∷ f ∷ inside) (sym same.func);
              })).1 own_side;
          shown = entries_made [] shown;
          together =
              AtCall store func args callee waiting stack counts segments (InModule waiting ∷ own)
              (waiting.func ∷ inside)
              played call.arguments.has_type below call.arguments.types (waits waiting same);
          claimed = λ pr rest c. (refl, c);
          bounded = λ rest c. c;
        })
      where
        shown : List Entry
        shown = step_entry operands results found ∷ ImportCall func args ∷ []

        body : IsDefined code func callee (import_definition m plan func callee).locals
            (import_definition m plan func callee).body
        body = (is.answers func callee below call.arguments.has_type).body

        end : Place
        end = at_call m plan store counts func callee args (InModule waiting ∷ own) (waiting.func ∷ inside)

    calls_follow : Follows m plan code (Unit {0}) (Within m plan segments) here
        (after_step segments came
        (after_instruction (program_awaiting (code_of m)) tape_configuration frame stack
        (Did operands results found (Calls waiting func args))))
    calls_follow = go (nat_lt func (imported_funcs m)) refl
      where
        FollowsCall : Bool → Type 0
        FollowsCall imported =
            Follows m plan code (Unit {0}) (Within m plan segments) here
            (after_step segments came
            (after_entries (step_entry operands results found ∷ [])
            (call_function (program_awaiting (code_of m)) imported store counts func args (InModule waiting ∷ stack))))

        go : (b : Bool) → nat_lt func (imported_funcs m) ≡ b → FollowsCall (nat_lt func (imported_funcs m))
        go true b = subst FollowsCall (sym b) (calls_import (grind (arith, nat_tests, b)))
        go false b = subst FollowsCall (sym b) (calls_own (grind (arith, nat_tests, b)))

  -- ---- a trap

  traps : (kind : TrapKind) (operands : List Val) (found : Option ℕ)
      → execute code (with_own (counters counts) store) frame ≡ Traps kind operands found
      → IsEnded m code (Unit {0}) (Within m plan segments) here
      (Trap frame.func frame.at.number kind operands found ∷ []) Trapped
  traps kind operands found e =
      let entry = Trap frame.func frame.at.number kind operands found in
      record {
        items = Makes entry ∷ [];
        ends =
            (laws.single.ends (watched m code) here frame own (entry ∷ []) (entry ∷ []) Trapped Trapped (frame.func ∷ inside)
            (record {
              stands = refl;
              makes = ap (after_instruction (watched m code).program here.config frame own) e;
              shows = λ args. ap (λ d. shown_trap d entry ∷ []) own_side;
              control = refl;
            }) (ap trapped_on own_side)).1 own_side;
        shown = refl;
        claimed = λ pr. (refl, none_first segments);
        bounded = none_bounded plan begun (left_of (imported_funcs m) segments).calls (imported_funcs m);
      }

  -- ---- all

  pub module_follows : Follows m plan code (Unit {0}) (Within m plan segments) here
      (after_step segments came (step (program_awaiting (code_of m)) tape_configuration))
  module_follows =
      go (execute (code_of m) store frame)
      (executed_beside (counters counts) instructions.answer instructions.alike (code_of m) code is.shares store frame
      played.sound.whole)
    where
      go : (e : Execution)
          → IsBeside (counters counts) (code_of m) store frame e (execute code (with_own (counters counts) store) frame)
          → Follows m plan code (Unit {0}) (Within m plan segments) here
          (after_step segments came
          (after_instruction (program_awaiting (code_of m)) tape_configuration frame stack e))
      go NoRule h = nothing_shown laws m plan code here
      go (Traps kind operands found) h = traps kind operands found h
      go (Did operands results found (Goes after next)) h =
          goes_on operands results found after next h.0 h.1
          (subst (IsSound m) (sym h.2.changed)
          (changes_sound m store (observed store frame) h.2.possible played.sound))
      go (Did operands results found (Calls waiting func args)) h =
          calls_follow operands results found waiting func args h.0 h.1 h.2
      go (Did operands results found (Returns given)) h = leaves operands results found given h.0 h.1
