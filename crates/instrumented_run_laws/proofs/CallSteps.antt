-- A step that calls a function, and the step of the instrumented run beside it.
use Rattle.std.proofs.Common.{◌≡◌, ℕ, ◌+◌, List, [], ◌∷◌, ◌++◌, length, nat_lt, Option, Some, refl, sym, ap, ◌∙◌, subst}
use Rattle.std.proofs.lemmas.List.{append-nil}
use Rattle.wasm_syntax.specs.declared.values.Val.{Val}
use Rattle.wasm_syntax.specs.declared.signatures.FuncType.{FuncType}
use Rattle.wasm_syntax.specs.declared.instructions.Instr.{Instr}
use Rattle.wasm_syntax.specs.declared.instructions.Instr.TheVariants as instrs
use Rattle.wasm_syntax.specs.declared.modules.Module.{Module}
use Rattle.wasm_syntax.specs.Encoding.Forms.{IsCoreInstr}
use Rattle.wasm_syntax.specs.Index.{imported_funcs, all_globals}
use Rattle.wasm_syntax.specs.Nest.{Nest, Plain}
use Rattle.wasm_syntax.specs.Validity.{IsValid}
use Rattle.host_script.specs.declared.scripts.Answer.{Answer}
use Rattle.host_script.specs.Fits.{FitAnswers}
use Rattle.history_spec.specs.Store.{Store}
use Rattle.history_spec.specs.Code.{Definition, code_of}
use Rattle.history_spec.specs.Configuration.{place, Frame, Activation, InModule}
use Rattle.history_spec.specs.Instruction.{Goes, Calls, Returns, Execution, Did, Traps, NoRule}
use Rattle.history_spec.specs.Run.{Meter}
use Rattle.history_spec.specs.Step.{Program, StepResult, call_function}
use Rattle.type_safety.specs.Configurations.{scope, IsTypedCode}
use Rattle.type_safety.specs.Heights.{Heights}
use Rattle.type_safety.specs.Results.{HasRule, IsControl}
use Rattle.record_replay_spec.specs.Hooks.{renumber, renumbered_view}
use Rattle.record_replay_spec.specs.Insertions.{inserted_after}
use Rattle.record_replay_spec.specs.Instrumented.{renumbered, weightless, weights_of_nest}
use Rattle.record_replay_spec.specs.ReportedCalls.{WaitingCall, reported_before, reported_after}
use Rattle.tape_laws.proofs.CoreFrames.{CallsAs}
use Rattle.instrumented_run_laws.proofs.Before.{operands_of, IsRule}
use Rattle.instrumented_run_laws.proofs.CallInstrs.{IsCallOf, call_of}
use Rattle.instrumented_run_laws.proofs.Calls as calls
use Rattle.instrumented_run_laws.proofs.Executed as executed
use Rattle.instrumented_run_laws.proofs.Follows as follows
use Rattle.instrumented_run_laws.proofs.Kept as kept
use Rattle.instrumented_run_laws.proofs.Leads as leads
use Rattle.instrumented_run_laws.proofs.Pieces.{HasHooks}
use Rattle.instrumented_run_laws.proofs.Ready as ready
use Rattle.instrumented_run_laws.proofs.Ready.{IsReady}
use Rattle.instrumented_run_laws.proofs.Relation.{Beside, frame_beside, awaited_piece}
use Rattle.instrumented_run_laws.proofs.Scratch.{scratch_values}
use Rattle.instrumented_run_laws.proofs.Settled as settled
use Rattle.instrumented_run_laws.proofs.ReportedBefore as reported_first
use Rattle.instrumented_run_laws.proofs.QuietSteps.{called_unreported}
use Rattle.instrumented_run_laws.proofs.PieceFacts.{HasPieces, HasProgram, IsCallInstr, IsCalledAlike, IsNoReturn}
use Rattle.instrumented_run_laws.proofs.Weights.{AreWeights}

call_no_return : (i : Instr) → IsCallInstr i → IsNoReturn i
call_no_return (instrs.Call func) is = tt
call_no_return (instrs.CallIndirect t) is = tt
call_no_return i is = absurd is

module _ (m : Module) (heights : Heights) (valid : IsValid m) (typed : IsTypedCode m heights)
    (answers : List (Option Answer)) (fits : FitAnswers m answers) (other : Program) (meter : Meter)
    (has : HasHooks (imported_funcs m) other meter) (pieces : HasPieces m other meter has)
    (knows : HasProgram m answers other) where
  open (calls.original m answers) use {n, program}

  module _ (store : Store) (counts : List ℕ) (f : Frame) (i : Instr) (rest : Nest) (number : ℕ)
      (below : List Activation) (waiting : List WaitingCall) (b : Beside) (bs : List Beside) (second : List ℕ)
      (body : Definition) where
    open (ready.instr_names m store f i rest number) use {frame, exec}
    open (ready.names m other meter store frame below waiting b bs second) use {site, ty, hooked, hooked_below, start}

    abbrev FollowsExecution : Execution → Type 0
    FollowsExecution e =
        ready.FollowsExecution m heights valid program other meter has pieces (Some i) store counts frame below waiting
        e
        start 1

    module _ (known : IsReady m heights meter store counts frame below waiting b bs second body) (is : IsCallInstr i)
        (core : IsCoreInstr i) (rule : IsRule exec) (long : length counts ≡ n) where
      -- the hook calls of the code before the instruction are made
      open (reported_first.names m heights valid program other meter has pieces store counts f i rest number below
          waiting b bs second body known (call_no_return i is) core rule)
          use {t, at_instr, middle, next_there, hooked_exec, to_instr, weighs, trapped}

      abbrev IsAlike : Execution → Type 0
      IsAlike x =
          IsCalledAlike n hooked (scratch_values t.scratch) next_there x hooked_exec

      alike : IsAlike exec
      alike =
          pieces.called_alike hooked (scratch_values t.scratch) store frame (place rest (number + 1))
          (place
          (Plain (renumbered n i) (executed.instr_rest m other meter has store second hooked_below f i rest number b))
          (executed.instr_number m other meter has store second hooked_below f i rest number b))
          next_there i is

      -- the instruction calls a function
      module _ (values : List Val) (func : ℕ) (args operands results : List Val) (found : Option ℕ) where
        abbrev wait : Frame
        wait = record frame { values = values; at = place rest (number + 1) }

        abbrev did : Execution
        did = Did operands results found (Calls wait func args)

        called_on : exec ≡ did → IsControl (scope m heights f.func ty body) (Calls wait func args)
            → CallsAs store f.values (Some i) operands func args → FollowsExecution did
        called_on e fine named =
            subst
            (λ w. settled.Follows m heights other meter has
            ((reported_before i operands store ++ reported_after (all_globals m) i results store)
            ++ settled.reported_of m heights other meter has (Some i) store store w s.entries)
            (settled.waiting_of m heights other meter has (Some i) store store w s.entries) s.next start 1)
            (sym of.waits)
            (subst
            (λ reported. settled.Follows m heights other meter has
            (reported ++ settled.reported_of m heights other meter has (Some i) store store waiting_now s.entries)
            (settled.waiting_of m heights other meter has (Some i) store store waiting_now s.entries) s.next start 1)
            (ap (λ x. reported_before i (operands_of x) store) e
            ∙ sym (append-nil (reported_before i operands store))
            ∙ ap (λ reported. reported_before i operands store ++ reported) (sym (of.quiet (all_globals m) results store)))
            (follows.after_way m other meter (reported_before i (operands_of exec) store)
            (settled.reported_of m heights other meter has (Some i) store store waiting_now s.entries)
            (settled.waiting_of m heights other meter has (Some i) store store waiting_now s.entries) s.next start
            middle 0 1
            to_instr
            (follows.after_way m other meter []
            (settled.reported_of m heights other meter has (Some i) store store waiting_now s.entries)
            (settled.waiting_of m heights other meter has (Some i) store store waiting_now s.entries) s.next middle
            (hooked_result (awaited_piece m meter wait of.call callee.results)).next 1 0
            (subst
            (λ piece. leads.Leads n other meter middle (hooked_result piece).next 1 [])
            of.piece
            (executed.calls_there m other meter has (renumbered_view n store) t.after hooked_below at_instr weighs
            (frame_beside m meter wait (inserted_after site i) beside_next) (renumber n func) args operands results
            second_call.0 second_call.1
            (called_unreported n (renumbered_view n store) other func (renumbered_view n store) t.after args
            (InModule (frame_beside m meter wait (inserted_after site i) beside_next) ∷ hooked_below) (knows.own
            func))))
            (calls.called m heights valid typed answers fits other meter has pieces knows (Some i) store store counts
            func
            callee args wait below waiting_now (beside_next ∷ bs) t.after fine.1 fine.3
            (ty, body, fine.2, known.accepts) (
              record {
                arity = known.beside.arity;
                locals = known.beside.locals;
                weights = subst
                    (λ piece. AreWeights meter (renumber n f.func)
                    (executed.instr_number m other meter has store second hooked_below f i rest number b + 1)
                    (weightless piece ++ weights_of_nest site rest))
                    of.piece
                    (executed.weights_after m other meter has store second hooked_below f i rest number b known.beside);
                labels = known.beside.labels;
                last = known.beside.last;
              },
              known.waits,
            )
            (settled.counted_after m heights other meter has counts second t.after known.counted t.counted) long
            of.args_are))))
          where
            callee : FuncType
            callee = fine.0

            of : IsCallOf m site i operands args callee waiting
            of = call_of m site refl store frame (place rest (number + 1)) i is operands results found wait func args e
                named
                callee fine.1 waiting

            waiting_now : List WaitingCall
            waiting_now = of.call ∷ waiting

            s : StepResult
            s = call_function program (nat_lt func n) store counts func args (InModule wait ∷ below)

            second_call : IsAlike did
            second_call = subst IsAlike e alike

            beside_next : Beside
            beside_next = executed.beside_after m other meter has store second hooked_below f i rest number b t.scratch

            hooked_result : List Instr → StepResult
            hooked_result piece =
                call_function other (nat_lt (renumber n func) other.code.imported) (renumbered_view n store) t.after
                (renumber n func) args (InModule (frame_beside m meter wait piece beside_next) ∷ hooked_below)

      pub call_step : (e : Execution) → exec ≡ e → HasRule (scope m heights f.func ty body) e
          → ((operands results : List Val) (found : Option ℕ) (wait : Frame) (func : ℕ) (args : List Val)
          → e ≡ Did operands results found (Calls wait func args) → CallsAs store f.values (Some i) operands func args)
          → FollowsExecution e
      call_step NoRule e fine named = absurd fine
      call_step (Traps kind operands found) e fine named =
          let second_trap = subst IsAlike e alike in
          trapped kind operands found second_trap.0 e second_trap.1
      call_step (Did operands results found (Goes left next)) e fine named =
          absurd
          (subst (kept.IsCalledOn store frame (place rest (number + 1))) e
          (kept.call_goes_on store frame (code_of m) (place rest (number + 1)) i is).called)
      call_step (Did operands results found (Calls wait func args)) e fine named =
          subst (λ g. FollowsExecution (Did operands results found (Calls g func args))) (sym gone)
          (called_on wait.values func args operands results found
          (e ∙ ap (λ g. Did operands results found (Calls g func args)) gone)
          (subst (λ g. IsControl (scope m heights f.func ty body) (Calls g func args)) gone fine)
          (named operands results found wait func args refl))
        where
          gone : wait ≡ record frame { values = wait.values; at = place rest (number + 1) }
          gone = subst (kept.IsCalledOn store frame (place rest (number + 1))) e
              (kept.call_goes_on store frame (code_of m) (place rest (number + 1)) i is).called
      call_step (Did operands results found (Returns given)) e fine named =
          absurd
          (subst (kept.IsCalledOn store frame (place rest (number + 1))) e
          (kept.call_goes_on store frame (code_of m) (place rest (number + 1)) i is).called)
