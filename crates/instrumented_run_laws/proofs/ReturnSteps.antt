-- A step by `return`, and the step of the instrumented run beside it.
use Rattle.std.proofs.Common.{◌≡◌, ℕ, List, [], ◌∷◌, ◌++◌, Option, Some, None, refl, sym, ap, subst}
use Rattle.wasm_syntax.specs.declared.values.Val.{Val}
use Rattle.wasm_syntax.specs.declared.instructions.Instr.TheVariants as instrs
use Rattle.wasm_syntax.specs.declared.modules.Module.{Module}
use Rattle.wasm_syntax.specs.Index.{imported_funcs}
use Rattle.wasm_syntax.specs.Nest.{Nest, Plain}
use Rattle.wasm_syntax.specs.Validity.{IsValid}
use Rattle.history_spec.specs.declared.entries.Entry.{Entry}
use Rattle.history_spec.specs.Store.{Store}
use Rattle.history_spec.specs.Code.{Definition}
use Rattle.history_spec.specs.Configuration.{place, Frame, Activation, topmost}
use Rattle.history_spec.specs.Instruction.{Execution, to_caller}
use Rattle.history_spec.specs.Run.{Meter}
use Rattle.history_spec.specs.Settle.{return_entry, deliver}
use Rattle.history_spec.specs.Step.{Program, Progress, after_settling}
use Rattle.type_safety.specs.Configurations.{scope}
use Rattle.type_safety.specs.Heights.{Heights}
use Rattle.type_safety.specs.Results.{HasRule}
use Rattle.record_replay_spec.specs.declared.hooks.Hook.TheVariants.{Leave}
use Rattle.record_replay_spec.specs.Hooks.{HookCall, renumbered_view}
use Rattle.record_replay_spec.specs.Insertions.{inserted_before}
use Rattle.record_replay_spec.specs.ReportedCalls.{WaitingCall, reported_number}
use Rattle.instrumented_run_laws.proofs.Before as before
use Rattle.instrumented_run_laws.proofs.Executed as executed
use Rattle.instrumented_run_laws.proofs.Follows as follows
use Rattle.instrumented_run_laws.proofs.Follows.{reported_results, waiting_below}
use Rattle.instrumented_run_laws.proofs.Leads as leads
use Rattle.instrumented_run_laws.proofs.Pieces.{HasHooks}
use Rattle.instrumented_run_laws.proofs.Ready as ready
use Rattle.instrumented_run_laws.proofs.Ready.{IsReady}
use Rattle.instrumented_run_laws.proofs.Relation.{Beside}
use Rattle.instrumented_run_laws.proofs.Settled as settled
use Rattle.instrumented_run_laws.proofs.PieceFacts.{HasPieces}

module _ (m : Module) (heights : Heights) (valid : IsValid m) (program other : Program) (meter : Meter)
    (has : HasHooks (imported_funcs m) other meter) (pieces : HasPieces m other meter has) where
  abbrev n : ℕ
  n = imported_funcs m

  module _ (store : Store) (counts : List ℕ) (f : Frame) (rest : Nest) (number : ℕ) (below : List Activation)
      (waiting : List WaitingCall) (b : Beside) (bs : List Beside) (second : List ℕ) (body : Definition) where
    abbrev frame : Frame
    frame = record f { at = place (Plain instrs.Return rest) number }

    open (ready.names m other meter store frame below waiting b bs second) use {site, ty, hooked, hooked_below, start}

    abbrev exec : Execution
    exec = to_caller [] (topmost f.arity f.values)

    -- a hook reports the end of the function, and the function returns
    pub return_step : IsReady m heights meter store counts frame below waiting b bs second body → (e : Execution)
        → exec ≡ e → HasRule (scope m heights f.func ty body) e
        → ready.FollowsExecution m heights valid program other meter has pieces (Some instrs.Return) store counts frame
        below waiting e start 1
    return_step known e is fine =
        subst
        (λ x. ready.FollowsExecution m heights valid program other meter has pieces (Some instrs.Return) store counts
        frame below waiting x start 1)
        is (go (topmost f.arity f.values) refl (subst (HasRule (scope m heights f.func ty body)) (sym is) fine))
      where
        t : before.Reports site other meter has store hooked_below hooked f.locals known.beside.locals second b.scratch
            f.values
            (inserted_before site instrs.Return) (reported_number Leave f.func store)
        t = before.reports_number_reported site other meter has store hooked_below hooked f.locals known.beside.locals Leave
            refl
            second b.scratch f.values f.func

        at_instr : Frame
        at_instr =
            executed.at_instr m other meter has store second hooked_below f instrs.Return rest number b instrs.Return
            t.scratch

        middle : Progress
        middle = leads.running n other meter (renumbered_view n store) t.after hooked_below at_instr

        go : (o : Option (List Val)) → topmost f.arity f.values ≡ o
            → HasRule (scope m heights f.func ty body) (to_caller [] o)
            → ready.FollowsExecution m heights valid program other meter has pieces (Some instrs.Return) store counts
            frame below waiting (to_caller [] o) start 1
        go None top fine = absurd fine
        go (Some given) top fine =
            subst
            (λ reported. settled.Follows m heights other meter has reported
            (settled.waiting_of m heights other meter has (Some instrs.Return) store store waiting entries) later start
            1)
            (sym
            (follows.reported_return_entry m other meter (Some instrs.Return) store store waiting f.func given below
            (deliver below given).entries))
            (subst
            (λ w. settled.Follows m heights other meter has
            (settled.reported_ended m heights other meter has (Some instrs.Return) store store counts below waiting bs frame
            given)
            w later start 1)
            (sym
            (follows.waiting_return_entry m other meter (Some instrs.Return) store store waiting f.func given below
            (deliver below given).entries))
            (follows.after_way m other meter (reported_number Leave f.func store) reported_later
            (settled.waiting_ended m heights other meter has (Some instrs.Return) store store counts below waiting bs
            frame
            given)
            later start middle 0 1
            (executed.reported_there m other meter has store second hooked_below f instrs.Return rest number b known.beside
            (reported_number Leave f.func store) t)
            (follows.after_way m other meter [] reported_later
            (settled.waiting_ended m heights other meter has (Some instrs.Return) store store counts below waiting bs
            frame
            given)
            later middle (after_settling (renumbered_view n store) t.after (deliver hooked_below given)).next 1 0
            (executed.returns_there m other meter has (renumbered_view n store) t.after hooked_below at_instr
            (executed.weight_there m other meter has store second hooked_below f instrs.Return rest number b
            known.beside)
            given [] [] None (ap (to_caller []) top))
            (ready.results_below m heights valid program other meter has pieces (Some instrs.Return) store store store
            counts
            frame below waiting b bs second body known given t.after fine
            (settled.counted_after m heights other meter has counts second t.after known.counted t.counted)))))
          where
            entries : List Entry
            entries = return_entry f.func given below ∷ (deliver below given).entries

            reported_later : List HookCall
            reported_later =
                reported_results below waiting given store
                ++ settled.reported_of m heights other meter has (Some instrs.Return) store store
                (waiting_below below waiting) (deliver below given).entries

            later : Progress
            later = (after_settling store counts (deliver below given)).next
