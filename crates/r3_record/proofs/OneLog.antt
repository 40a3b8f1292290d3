-- The run of a module in the hooked form under the script that bytes encode has at most one result.
use Rattle.std.proofs.Common.{◌≡◌, ℕ, List, Vec, Some, Result, Ok, Err, sym, ◌∙◌, ap, subst}
use Rattle.base.proofs.Options.{none_some, same_some}
use Rattle.base.proofs.Results.{same_ok, ok_err}
use Rattle.wasm_syntax.specs.declared.modules.Module.{Module}
use Rattle.host_script.specs.declared.scripts.Script.{Script}
use Rattle.script_text.specs.Texts.{script_of_text}
use Rattle.trace_model.specs.declared.events.Log.{Log}
use Rattle.trace_bytes.specs.declared.tags.TheConstants.{VERSION_2}
use Rattle.trace_bytes.specs.Spelling.{log_bytes}
use Rattle.history_spec.specs.Store.{Store}
use Rattle.record_replay_spec.specs.HookedForm.{HookedForm, hooked_form}
use Rattle.host_play.specs.declared.results.PlayFault.{PlayFault}
use Rattle.host_play.specs.declared.results.PlayFault.TheVariants as refusal
use Rattle.run_recorder.specs.Records.{RecordedRun, IsLog}
use Rattle.replay_theorem.specs.RecordLaws.{RecordsAreOne}
use Rattle.accepted_runs.specs.Runs.{run_fault}
use Rattle.accepted_runs.proofs.OneResult.{linked-unlinked, one-store, unlinked-one}
use Rattle.r3_faults.specs.declared.faults.Fault.{Fault}
use Rattle.r3_faults.specs.Answers.{IsCaused, IsExact}
use Rattle.r3_faults.proofs.OneAnswer.{exact_answer}
use Rattle.r3_inputs.specs.Inputs.{IsRefusedScript, script_fault}
use Rattle.r3_record.specs.LogFiles.{HasLogFile, HasNoLogFile, OfLink, OfRun, HasModuleLog, HasNoModuleLog, OfForm, OfScript, OfLog, IsRefusal, run_of}

-- ---- values that differ, and that are the same

err-one : {X Y : Type 0} (r : Result X Y) (a b : Y) → r ≡ Err a → r ≡ Err b → a ≡ b
err-one r a b e f = cc (sym e ∙ f)

-- the results of a recorded run
abbrev logged : Log → Result Log PlayFault
logged log = Ok log

abbrev refused : PlayFault → Result Log PlayFault
refused fault = Err fault

logged-one : (a b : Log) → logged a ≡ logged b → a ≡ b
logged-one a b e = cc e

refused-one : (a b : PlayFault) → refused a ≡ refused b → a ≡ b
refused-one a b e = cc e

logged-refused : (a : Log) (b : PlayFault) → logged a ≡ refused b → ⊥
logged-refused a b e = absurd (cc e)

module _ (one : RecordsAreOne) (m : Module) (turns : ℕ) where
  -- ---- the run from a store

  refusal-one : (r : RecordedRun) (f g : Fault) → IsRefusal r turns f → IsRefusal r turns g → f ≡ g
  refusal-one r f g x y =
      let same = one r (refused x.found) (refused y.found) (λ e. x.differs (refused-one x.found refusal.Memory e))
      (λ e. y.differs (refused-one y.found refusal.Memory e)) x.refused y.refused in
      x.named ∙ ap (run_fault turns) (refused-one x.found y.found same) ∙ sym y.named

  log-refusal : (r : RecordedRun) (log : Log) (fault : Fault) → IsLog r log.outcome log → IsRefusal r turns fault → ⊥
  log-refusal r log fault x y =
      logged-refused log y.found
      (one r (logged log) (refused y.found) (logged-refused log refusal.Memory)
      (λ e. y.differs (refused-one y.found refusal.Memory e)) x y.refused)

  log-one : (r : RecordedRun) (a b : Log) → IsLog r a.outcome a → IsLog r b.outcome b → a ≡ b
  log-one r a b x y =
      logged-one a b
      (one r (logged a) (logged b) (logged-refused a refusal.Memory) (logged-refused b refusal.Memory) x y)

  -- ---- the module under a script

  module _ (form : HookedForm) (script : Script) where
    abbrev run : Store → RecordedRun
    run store = run_of m form script store turns

    file-one : (a b : List ℕ) → HasLogFile m form script turns a → HasLogFile m form script turns b → a ≡ b
    file-one a b x y =
        let store : y.store ≡ x.store = one-store m script y.supply x.supply y.store x.store y.linked x.linked in
        let found = subst (λ store. IsLog (run store) y.log.outcome y.log) store y.logged in
        x.spelled
        ∙ ap (log_bytes VERSION_2 form.digest) (log-one (run x.store) x.log y.log x.logged found)
        ∙ sym y.spelled

    file-none : (file : List ℕ) (fault : Fault) → HasLogFile m form script turns file
        → HasNoLogFile m form script turns fault → ⊥
    file-none file fault x (OfLink u) = linked-unlinked m script x.supply x.store fault x.linked u
    file-none file fault x (OfRun supply store linked cause) =
        let same : store ≡ x.store = one-store m script supply x.supply store x.store linked x.linked in
        log-refusal (run x.store) x.log fault x.logged
        (subst (λ store. IsRefusal (run store) turns fault) same cause)

    fault-one : (f g : Fault) → HasNoLogFile m form script turns f → HasNoLogFile m form script turns g → f ≡ g
    fault-one f g (OfLink u) (OfLink v) = unlinked-one m script f g u v
    fault-one f g (OfLink u) (OfRun supply store linked cause) =
        absurd (linked-unlinked m script supply store f linked u)
    fault-one f g (OfRun supply store linked cause) (OfLink v) =
        absurd (linked-unlinked m script supply store g linked v)
    fault-one f g (OfRun supply store linked cause) (OfRun another other links too) =
        let same : other ≡ store = one-store m script another supply other store links linked in
        refusal-one (run store) f g cause (subst (λ store. IsRefusal (run store) turns g) same too)

  -- ---- the module and the bytes of a script

  module _ (bytes : List ℕ) where
    script-one : (f g : Fault) → IsRefusedScript m bytes f → IsRefusedScript m bytes g → f ≡ g
    script-one f g u v =
        u.named ∙ ap script_fault (err-one (script_of_text m bytes) u.found v.found u.first v.first) ∙ sym v.named

    -- a property of one form or script of the module holds of the other, which is equal
    same-form : (P : HookedForm → Type 0) (a b : HookedForm) → hooked_form m ≡ Some a → hooked_form m ≡ Some b → P b
        → P a
    same-form P a b e f p = subst P (same_some (hooked_form m) b a f e) p

    same-script : (P : Script → Type 0) (a b : Script) → script_of_text m bytes ≡ Ok a
        → script_of_text m bytes ≡ Ok b → P b → P a
    same-script P a b e f p = subst P (same_ok (script_of_text m bytes) b a f e) p

    module-one : (a b : List ℕ) → HasModuleLog m bytes turns a → HasModuleLog m bytes turns b → a ≡ b
    module-one a b x y =
        file-one x.form x.script a b x.logged
        (same-form (λ form. HasLogFile m form x.script turns b) x.form y.form x.has_form y.has_form
        (same-script (λ script. HasLogFile m y.form script turns b) x.script y.script x.is_script y.is_script y.logged))

    module-none : (file : List ℕ) (fault : Fault) → HasModuleLog m bytes turns file
        → HasNoModuleLog m bytes turns fault → ⊥
    module-none file fault x (OfForm none named) = none_some (hooked_form m) x.form none x.has_form
    module-none file fault x (OfScript form has_form cause) =
        ok_err (script_of_text m bytes) x.script cause.found x.is_script cause.first
    module-none file fault x (OfLog form has_form script is_script none) =
        file-none x.form x.script file fault x.logged
        (same-form (λ form. HasNoLogFile m form x.script turns fault) x.form form x.has_form has_form
        (same-script (λ script. HasNoLogFile m form script turns fault) x.script script x.is_script is_script none))

    why-one : (f g : Fault) → HasNoModuleLog m bytes turns f → HasNoModuleLog m bytes turns g → f ≡ g
    why-one f g (OfForm none named) (OfForm other too) = named ∙ sym too
    why-one f g (OfForm none named) (OfScript form has_form cause) =
        absurd (none_some (hooked_form m) form none has_form)
    why-one f g (OfForm none named) (OfLog form has_form script is_script other) =
        absurd (none_some (hooked_form m) form none has_form)
    why-one f g (OfScript form has_form cause) (OfForm none named) =
        absurd (none_some (hooked_form m) form none has_form)
    why-one f g (OfScript form has_form cause) (OfScript other has_too too) = script-one f g cause too
    why-one f g (OfScript form has_form cause) (OfLog other has_too script is_script none) =
        absurd (ok_err (script_of_text m bytes) script cause.found is_script cause.first)
    why-one f g (OfLog form has_form script is_script none) (OfForm other named) =
        absurd (none_some (hooked_form m) form other has_form)
    why-one f g (OfLog form has_form script is_script none) (OfScript other has_too cause) =
        absurd (ok_err (script_of_text m bytes) script cause.found is_script cause.first)
    why-one f g (OfLog form has_form script is_script none) (OfLog other has_too text is_text too) =
        fault-one form script f g none
        (same-form (λ form. HasNoLogFile m form script turns g) form other has_form has_too
        (same-script (λ script. HasNoLogFile m other script turns g) script text is_script is_text too))

    -- a result with its cause is exact
    pub exact : {Z : Type 0} (r : Result (Vec ℕ Z) Fault)
        → IsCaused (HasModuleLog m bytes turns) (HasNoModuleLog m bytes turns) r
        → IsExact (HasModuleLog m bytes turns) (HasNoModuleLog m bytes turns) r
    exact = exact_answer (HasModuleLog m bytes turns) (HasNoModuleLog m bytes turns) module-none module-one why-one
