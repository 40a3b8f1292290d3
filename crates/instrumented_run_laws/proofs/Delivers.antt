-- If results are delivered to waiting activations of the original, they are delivered to the instrumented ones.
use Rattle.std.proofs.Common.{◌≡◌, ℕ, List, [], ◌∷◌, ◌++◌, Option, IsTrue, option_to_list, refl, sym, ap, subst, arith}
use Rattle.std.proofs.lemmas.List.Elements.{All-nil}
use Rattle.wasm_syntax.specs.declared.values.Val.{Val}
use Rattle.wasm_syntax.specs.declared.values.ValType.{ValType}
use Rattle.wasm_syntax.specs.declared.signatures.FuncType.{FuncType}
use Rattle.wasm_syntax.specs.declared.instructions.Instr.{Instr}
use Rattle.wasm_syntax.specs.declared.modules.Module.{Module}
use Rattle.wasm_syntax.specs.Index.{imported_funcs}
use Rattle.wasm_syntax.specs.Typing.{is_number}
use Rattle.wasm_syntax.specs.Validity.{IsValid, IsFuncType}
use Rattle.host_script.specs.declared.scripts.ResponseEnd.TheVariants.{Return, Trap as EndsInTrap}
use Rattle.base.specs.declared.outcomes.Outcome.TheVariants.{Ended, HostTrapped}
use Rattle.history_spec.specs.Store.{Store}
use Rattle.history_spec.specs.Configuration.{Frame, Activation, InModule, InMain, InImport, push_all, with_results}
use Rattle.history_spec.specs.Run.{Meter}
use Rattle.history_spec.specs.Settle.{at_end, deliver}
use Rattle.history_spec.specs.Step.{Program, Running, Finished, after_settling}
use Rattle.type_safety.specs.Configurations.{scope, Accept}
use Rattle.type_safety.specs.Heights.{Heights}
use Rattle.type_safety.specs.Stores.{func_count}
use Rattle.type_safety.specs.Values.{AreValues}
use Rattle.type_safety.proofs.Constants.{fit_values}
use Rattle.type_safety.proofs.SettleEnds.{IsEnd, results_end}
use Rattle.record_replay_spec.specs.Hooks.{renumbered_view}
use Rattle.record_replay_spec.specs.ReportedCalls.{WaitingCall, reported_values, reported_over}
use Rattle.tape_laws.proofs.Ordered.{types_are}
use Rattle.instrumented_run_laws.proofs.DefinedFunctions.{type_is}
use Rattle.instrumented_run_laws.proofs.Follows as follows
use Rattle.instrumented_run_laws.proofs.Leads as leads
use Rattle.instrumented_run_laws.proofs.Pieces.{HasHooks}
use Rattle.instrumented_run_laws.proofs.Relation.{Beside, type_of, site_at, frame_beside, awaited_piece, IsBeside, waiting_stack, AreWaiting, AreCounted}
use Rattle.instrumented_run_laws.proofs.Settled as settled
use Rattle.instrumented_run_laws.proofs.PieceFacts.{HasPieces}

-- the results of a function, at most one
abbrev pub AreResults : List ValType → Type 0
AreResults types = IsFuncType (record { params = []; results = types })

pub none_good : AreResults []
none_good =
    record {
      params = All-nil (λ t. IsTrue (is_number t));
      results = All-nil (λ t. IsTrue (is_number t));
      one_result = omega arith;
    }

pub results_good : (ty : FuncType) → IsFuncType ty → AreResults ty.results
results_good ty good = record {
  params = All-nil (λ t. IsTrue (is_number t));
  results = good.results;
  one_result =
      good.one_result;
}

module _ (m : Module) (heights : Heights) (valid : IsValid m) (other : Program) (meter : Meter)
    (has : HasHooks (imported_funcs m) other meter) (pieces : HasPieces m other meter has) where
  abbrev n : ℕ
  n = imported_funcs m

  module _ (instr : Option Instr) (earlier store : Store) (counts : List ℕ) where
    abbrev pub Delivers : List Activation → Type 0
    Delivers stack =
        (awaited : List ValType) (results : List Val) (waiting : List WaitingCall) (bs : List Beside) (second : List ℕ)
        → AreResults awaited → Accept m heights stack awaited → AreValues (func_count m) awaited results
        → AreWaiting m meter awaited stack waiting bs → AreCounted n counts second
        → settled.Delivered m heights other meter has instr earlier store counts stack awaited results waiting bs second

    -- results are delivered to an activation of the module, which passes them to hooks and goes on
    to_frame : (frame : Frame) (below : List Activation) → Delivers below → (awaited : List ValType)
        (results : List Val) (call : WaitingCall) (waiting : List WaitingCall) (b : Beside) (bs : List Beside)
        (second : List ℕ)
        → Accept m heights (InModule frame ∷ below) awaited → AreValues (func_count m) awaited results
        → AreResults awaited
        → AreWaiting m meter awaited (InModule frame ∷ below) (call ∷ waiting) (b ∷ bs) → AreCounted n counts second
        → settled.Delivered m heights other meter has instr earlier store counts (InModule frame ∷ below) awaited
        results
        (call ∷ waiting) (b ∷ bs) second
    to_frame frame below rest awaited results call waiting b bs second a p good w counted =
        follows.after_way m other meter (reported_values store results ++ reported_over call.callee store)
        (settled.reported_of m heights other meter has instr earlier store waiting (deliver (InModule frame ∷ below)
        results).entries)
        (settled.waiting_of m heights other meter has instr earlier store waiting (deliver (InModule frame ∷ below)
        results).entries)
        (after_settling store counts (deliver (InModule frame ∷ below) results)).next
        (after_settling (renumbered_view n store) second
        (deliver (waiting_stack m meter awaited (InModule frame ∷ below) (call ∷ waiting) (b ∷ bs)) results)).next
        (leads.settled n other meter (renumbered_view n store) t.after (waiting_stack m meter ty.results below waiting
        bs)
        (frame_beside m meter pushed [] t.next))
        0 0 t.led
        (settled.settles m heights other meter has instr earlier store counts below waiting bs pushed a.1 t.next t.after
        t.is_beside (settled.counted_after m heights other meter has counts second t.after counted t.counted) w.1
        (λ given others are counted. rest ty.results given waiting bs others
        (subst AreResults (sym (ap (λ (f : FuncType). f.results) same))
        (results_good a.0 (types_are m valid.outside frame.func a.0 a.2.around.scope.has_type)))
        (subst (λ types. Accept m heights below types) (sym (ap (λ (f : FuncType). f.results) same)) a.3) are w.1
        counted)
        (subst
        (λ f. IsEnd (scope m heights frame.func f a.1) (with_results frame results).at.rest
        (at_end (with_results frame results)))
        (sym same)
        (results_end (scope m heights frame.func a.0 a.1) awaited frame results a.2 p)))
      where
        ty : FuncType
        ty = type_of m frame.func

        same : ty ≡ a.0
        same = type_is m frame.func a.0 a.2.around.scope.has_type

        pushed : Frame
        pushed = record frame { values = push_all results frame.values }

        beside : IsBeside m meter pushed (awaited_piece m meter frame call awaited) b
        beside =
            record {
              arity = w.0.arity;
              locals = w.0.locals;
              weights = w.0.weights;
              labels = w.0.labels;
              last = w.0.last;
            }

        t : settled.PieceReported m heights other meter has store second (waiting_stack m meter ty.results below waiting bs)
            pushed (awaited_piece m meter frame call awaited) b (reported_values store results ++ reported_over call.callee
            store)
        t = settled.piece_reported m heights other meter has store second (waiting_stack m meter ty.results below waiting
            bs)
            pushed (awaited_piece m meter frame call awaited) b
            (reported_values store results ++ reported_over call.callee store) beside
            (pieces.over_reported (site_at m frame.func) has store (waiting_stack m meter ty.results below waiting bs)
            (frame_beside m meter pushed (awaited_piece m meter frame call awaited) b) frame.locals w.0.locals second
            b.scratch call.callee (record { params = []; results = awaited }) results frame.values (func_count m) good
            p)

    pub deliver_from : (stack : List Activation) → Delivers stack
    deliver_from [] awaited results waiting bs second good a p w counted = absurd a
    deliver_from (InModule frame ∷ below) awaited results [] bs second good a p w counted = absurd w
    deliver_from (InModule frame ∷ below) awaited results (call ∷ waiting) [] second good a p w counted = absurd w
    deliver_from (InModule frame ∷ below) awaited results (call ∷ waiting) (b ∷ bs) second good a p w counted =
        to_frame frame below (deliver_from below) awaited results call waiting b bs second a p good w counted
    deliver_from (InMain [] ∷ below) awaited results waiting bs second good a p w counted =
        follows.stands_there m other meter waiting (Finished Ended) _ (Finished Ended) refl refl
    deliver_from (InMain (action ∷ actions) ∷ below) awaited results waiting bs second good a p w counted =
        follows.stands_there m other meter waiting
        (Running (record { store = store; stack = InMain (action ∷ actions) ∷ below; counts = counts })) _
        (Running (record {
          store = renumbered_view n store;
          stack = waiting_stack m meter [] (InMain (action ∷ actions) ∷ below) waiting bs;
          counts = second;
        }))
        refl
        (record { bs = bs; counts = second; is = refl; going = w; counted = counted })
    deliver_from (InImport import args [] (Return value) ∷ InModule frame ∷ below) awaited results waiting bs second
        good a p w counted =
        deliver_from (InModule frame ∷ below) (type_of m import).results (option_to_list value) waiting bs second
        (subst AreResults (sym types) (results_good a.0 (types_are m valid.outside import a.0 a.1.has_type)))
        (subst (Accept m heights (InModule frame ∷ below)) (sym types) a.5)
        (subst (λ ts. AreValues (func_count m) ts (option_to_list value)) (sym types)
        (fit_values (func_count m) a.0.results (option_to_list value) a.4))
        w.1 counted
      where
        types : (type_of m import).results ≡ a.0.results
        types = ap (λ (f : FuncType). f.results) (type_is m import a.0 a.1.has_type)
    deliver_from (InImport import args [] (Return value) ∷ []) awaited results waiting bs second good a p w counted =
        absurd w.0
    deliver_from (InImport import args [] (Return value) ∷ InMain actions ∷ below) awaited results waiting bs second
        good a p w counted =
        absurd w.0
    deliver_from (InImport import args [] (Return value) ∷ InImport i more actions e ∷ below) awaited results waiting
        bs second good a p w counted =
        absurd w.0
    deliver_from (InImport import args [] EndsInTrap ∷ below) awaited results waiting bs second good a p w counted =
        follows.stands_there m other meter waiting (Finished HostTrapped) _ (Finished HostTrapped) refl refl
    deliver_from (InImport import args (action ∷ actions) end ∷ below) awaited results waiting bs second good a p w
        counted =
        follows.stands_there m other meter waiting
        (Running (record {
          store = store;
          stack = InImport import args (action ∷ actions) end ∷ below;
          counts = counts;
        })) _
        (Running (record {
          store = renumbered_view n store;
          stack = waiting_stack m meter [] (InImport import args (action ∷ actions) end ∷ below) waiting bs;
          counts = second;
        }))
        refl
        (record { bs = bs; counts = second; is = refl; going = w; counted = counted })
