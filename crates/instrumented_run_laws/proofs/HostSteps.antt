-- A step of the host, and the step of the instrumented run beside it.
use Rattle.std.proofs.Common.{◌≡◌, ℕ, List, [], ◌∷◌, ◌++◌, Option, None, refl, sym, ◌∙◌, subst}
use Rattle.std.proofs.lemmas.List.Elements.{All-head, All-tail}
use Rattle.wasm_syntax.specs.declared.values.Val.{Val}
use Rattle.wasm_syntax.specs.declared.values.ValType.{ValType}
use Rattle.wasm_syntax.specs.declared.modules.Module.{Module}
use Rattle.wasm_syntax.specs.Index.{imported_funcs, all_globals}
use Rattle.wasm_syntax.specs.Validity.{IsValid}
use Rattle.host_script.specs.declared.scripts.Action.{Action}
use Rattle.host_script.specs.declared.scripts.Answer.{Answer}
use Rattle.host_script.specs.declared.scripts.ResponseEnd.{ResponseEnd}
use Rattle.host_script.specs.Fits.{FitAnswers, FitsAction}
use Rattle.history_spec.specs.Action.{ActionResult, Changes, Enters, Fails, Unfit, perform}
use Rattle.history_spec.specs.Store.{Store}
use Rattle.history_spec.specs.Code.{code_of}
use Rattle.history_spec.specs.Configuration.{Activation, InMain, InImport, Config}
use Rattle.history_spec.specs.Run.{Meter, weight}
use Rattle.history_spec.specs.Settle.{deliver}
use Rattle.history_spec.specs.Step.{Program, Running, Faulted, after_settling, enter_function, after_action, step}
use Rattle.type_safety.specs.Configurations.{Accept, IsConfig, IsTypedCode}
use Rattle.type_safety.specs.Heights.{Heights}
use Rattle.type_safety.specs.Laws.{FittingActionsHaveResults}
use Rattle.type_safety.specs.Results.{IsActionResult}
use Rattle.record_replay_spec.specs.Hooks.{renumber, renumbered_view}
use Rattle.record_replay_spec.specs.HookedRuns.{renumbered_action}
use Rattle.record_replay_spec.specs.ReportedCalls.{WaitingCall, reported_enter, store_performed, moments_of_step, reported_calls}
use Rattle.instrumented_run_laws.proofs.Calls as calls
use Rattle.instrumented_run_laws.proofs.Delivers as delivers
use Rattle.instrumented_run_laws.proofs.Delivers.{none_good}
use Rattle.instrumented_run_laws.proofs.Follows as follows
use Rattle.instrumented_run_laws.proofs.Follows.{reported_results, waiting_below}
use Rattle.instrumented_run_laws.proofs.Leads as leads
use Rattle.instrumented_run_laws.proofs.Pieces.{HasHooks}
use Rattle.instrumented_run_laws.proofs.Relation.{Beside, waiting_stack, AreWaiting, AreCounted}
use Rattle.instrumented_run_laws.proofs.Settled as settled
use Rattle.instrumented_run_laws.proofs.QuietSteps.{acted_unreported}
use Rattle.instrumented_run_laws.proofs.PieceFacts.{HasPieces, HasProgram, IsActedAlike}

module _ (m : Module) (heights : Heights) (valid : IsValid m) (typed : IsTypedCode m heights)
    (answers : List (Option Answer)) (fits : FitAnswers m answers) (other : Program) (meter : Meter)
    (has : HasHooks (imported_funcs m) other meter) (pieces : HasPieces m other meter has)
    (knows : HasProgram m answers other) (laws : FittingActionsHaveResults) (host : meter.action ≡ 1) where
  abbrev n : ℕ
  n = imported_funcs m

  abbrev program : Program
  program = record { code = code_of m; answers = answers }

  -- what follows an action, after which the host goes on with these activations
  module _ (store : Store) (counts : List ℕ) (stack below hooked : List Activation) (waiting : List WaitingCall)
      (bs : List Beside) (second : List ℕ)
      (accepts : (types : List ValType) → Accept m heights below types)
      (waits : (types : List ValType) → AreWaiting m meter types below waiting bs)
      (alike : (types : List ValType) → waiting_stack m meter types below waiting bs ≡ hooked)
      (counted : AreCounted n counts second) where
    abbrev config : Config
    config = record { store = store; stack = stack; counts = counts }

    abbrev hooked_config : List Activation → Config
    hooked_config hooked_stack = record { store = renumbered_view n store; stack = hooked_stack; counts = second }

    abbrev FollowsAction : ActionResult → ActionResult → List Activation → Type 0
    FollowsAction r acted hooked_stack =
        settled.Follows m heights other meter has
        (settled.reported_of m heights other meter has None store (store_performed store r) waiting
        (after_action program config below r).entries)
        (settled.waiting_of m heights other meter has None store (store_performed store r) waiting
        (after_action program config below r).entries)
        (after_action program config below r).next
        (after_action other (hooked_config hooked_stack) hooked acted).next 0

    acts : (r acted : ActionResult) (hooked_stack : List Activation) → IsActionResult m r → IsActedAlike n r acted
        → ((left : Store) → reported_results below waiting [] left ≡ [])
        → waiting_below below waiting ≡ waiting → FollowsAction r acted hooked_stack
    acts (Changes left) acted hooked_stack fine same unreported unwaited =
        subst (λ a. FollowsAction (Changes left) a hooked_stack) (sym same)
        (subst
        (λ h. settled.Follows m heights other meter has
        (settled.reported_of m heights other meter has None store left waiting (deliver below []).entries)
        (settled.waiting_of m heights other meter has None store left waiting (deliver below []).entries)
        (after_settling left counts (deliver below [])).next
        (after_settling (renumbered_view n left) second (deliver h [])).next 0)
        (alike [])
        (subst
        (λ w. settled.Follows m heights other meter has
        (settled.reported_of m heights other meter has None store left w (deliver below []).entries)
        (settled.waiting_of m heights other meter has None store left w (deliver below []).entries)
        (after_settling left counts (deliver below [])).next
        (after_settling (renumbered_view n left) second (deliver (waiting_stack m meter [] below waiting bs) [])).next
        0)
        unwaited
        (subst
        (λ reported. settled.Follows m heights other meter has
        (reported
        ++ settled.reported_of m heights other meter has None store left (waiting_below below waiting) (deliver below
        []).entries)
        (settled.waiting_of m heights other meter has None store left (waiting_below below waiting) (deliver below
        []).entries)
        (after_settling left counts (deliver below [])).next
        (after_settling (renumbered_view n left) second (deliver (waiting_stack m meter [] below waiting bs) [])).next
        0)
        (unreported left)
        (delivers.deliver_from m heights valid other meter has pieces None store left counts below [] [] waiting bs
        second
        none_good (accepts []) tt (waits []) counted))))
    acts (Enters func args) acted hooked_stack fine same unreported unwaited =
        subst (λ a. FollowsAction (Enters func args) a hooked_stack) (sym same)
        (subst
        (λ h. settled.Follows m heights other meter has
        (reported_enter func args store
        ++ settled.reported_of m heights other meter has None store store waiting
        (enter_function (code_of m) store counts func args below).entries)
        (settled.waiting_of m heights other meter has None store store waiting
        (enter_function (code_of m) store counts func args below).entries)
        (enter_function (code_of m) store counts func args below).next
        (enter_function other.code (renumbered_view n store) second (renumber n func) args h).next 0)
        (alike fine.0.results)
        (calls.entered m heights valid typed answers fits other meter has pieces knows None store store counts func
        fine.0 args below waiting bs second fine.1 fine.2 fine.3 (accepts fine.0.results) (waits fine.0.results)
        counted))
    acts (Fails kind) acted hooked_stack fine same unreported unwaited =
        subst (λ a. FollowsAction (Fails kind) a hooked_stack) (sym same)
        (follows.stands_there m other meter waiting (Faulted kind) _ (Faulted kind) refl refl)
    acts Unfit acted hooked_stack fine same unreported unwaited = absurd fine

  -- ---- the host's own work, and its work for an import

  abbrev FollowsStep : Config → List WaitingCall → Config → Type 0
  FollowsStep config waiting hooked =
      settled.Follows m heights other meter has (reported_calls (all_globals m) waiting (moments_of_step program config))
      (follows.waiting_after_all waiting (moments_of_step program config)) (step program config).next (Running hooked) 1

  module _ (store : Store) (counts : List ℕ) (waiting : List WaitingCall) (bs : List Beside) (second : List ℕ)
      (counted : AreCounted n counts second) where
    abbrev at : List Activation → Config
    at stack = record { store = store; stack = stack; counts = counts }

    abbrev hooked_at : List Activation → Config
    hooked_at stack =
        record { store = renumbered_view n store; stack = waiting_stack m meter [] stack waiting bs; counts = second }

    -- one step of the instrumented run, and what follows it
    then_follows : (config hooked : Config) (r : ActionResult) (stack : List Activation)
        → step other hooked ≡ after_action other hooked stack r → weight meter hooked ≡ meter.action
        → settled.Follows m heights other meter has
        (reported_calls (all_globals m) waiting (moments_of_step program config))
        (follows.waiting_after_all waiting (moments_of_step program config)) (step program config).next
        (after_action other hooked stack r).next 0
        → FollowsStep config waiting hooked
    then_follows config hooked r stack is weighs f =
        follows.after_way m other meter [] (reported_calls (all_globals m) waiting (moments_of_step program config))
        (follows.waiting_after_all waiting (moments_of_step program config)) (step program config).next (Running hooked)
        (after_action other hooked stack r).next 1 0
        (subst
        (λ w. leads.Leads n other meter (Running hooked) (after_action other hooked stack r).next w []) (weighs ∙ host)
        (leads.one n other meter hooked (after_action other hooked stack r) [] is
        (acted_unreported n hooked.store other hooked stack r)))
        f

    pub main_step : (action : Action) (actions : List Action) (below : List Activation)
        → IsConfig m heights (at (InMain (action ∷ actions) ∷ below))
        → AreWaiting m meter [] (InMain (action ∷ actions) ∷ below) waiting bs
        → FollowsStep (at (InMain (action ∷ actions) ∷ below)) waiting (hooked_at (InMain (action ∷ actions) ∷ below))
    main_step action actions below fine w =
        let stack = InMain (action ∷ actions) ∷ below in
        let hooked = hooked_at stack in
        let rest = All-tail (FitsAction m []) action actions fine.stack.0 in
        let r = perform (code_of m) store [] action in
        let acted = perform other.code (renumbered_view n store) [] (renumbered_action n action) in
        then_follows (at stack) hooked acted (waiting_stack m meter [] (InMain actions ∷ below) waiting bs) refl refl
        (acts store counts stack (InMain actions ∷ below) (waiting_stack m meter [] (InMain actions ∷ below) waiting bs)
        waiting bs second (λ types. (rest, fine.stack.1)) (λ types. w) (λ types. refl) counted r acted hooked.stack
        (laws m heights store [] [] action typed fine.store tt
        (All-head (FitsAction m []) action actions fine.stack.0))
        (pieces.acted_alike store [] action) (λ left. refl) refl)

    pub import_step : (import : ℕ) (args : List Val) (action : Action) (actions : List Action) (end : ResponseEnd)
        (below : List Activation)
        → IsConfig m heights (at (InImport import args (action ∷ actions) end ∷ below))
        → AreWaiting m meter [] (InImport import args (action ∷ actions) end ∷ below) waiting bs
        → FollowsStep (at (InImport import args (action ∷ actions) end ∷ below)) waiting
        (hooked_at (InImport import args (action ∷ actions) end ∷ below))
    import_step import args action actions end below fine w =
        let stack = InImport import args (action ∷ actions) end ∷ below in
        let hooked = hooked_at stack in
        let a = fine.stack in
        let rest = All-tail (FitsAction m a.0.params) action actions a.3 in
        let left = InImport import args actions end ∷ below in
        let r = perform (code_of m) store args action in
        let acted = perform other.code (renumbered_view n store) args (renumbered_action n action) in
        then_follows (at stack) hooked acted (waiting_stack m meter [] left waiting bs) refl refl
        (acts store counts stack left (waiting_stack m meter [] left waiting bs) waiting bs second
        (λ types. (a.0, a.1, a.2, rest, a.4, a.5)) (λ types. w) (λ types. refl) counted r acted hooked.stack
        (laws m heights store a.0.params args action typed fine.store a.2
        (All-head (FitsAction m a.0.params) action actions a.3))
        (pieces.acted_alike store args action) (λ left. refl) refl)
