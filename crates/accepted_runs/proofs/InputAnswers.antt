-- Answers for the module and the script that bytes are, and what they say of calls that begin with them.
use Rattle.std.proofs.Common.{◌≡◌, ◌⊎◌, inl, inr, ℕ, List, Result, Ok, Err, IfOk, IfErr, sym, ◌∙◌, ap, subst}
use Rattle.std.proofs.lemmas.Result.{IfOk-weaker}
use Rattle.wasm_syntax.specs.declared.modules.Module.{Module}
use Rattle.host_script.specs.declared.scripts.Script.{Script}
use Rattle.script_text.specs.Texts.{script_of_text}
use Rattle.r3_faults.specs.Answers.{IsExactValue}
use Rattle.r3_faults.specs.declared.faults.Fault.{Fault}
use Rattle.r3_faults.specs.declared.faults.Fault.TheVariants.{Memory}
use Rattle.r3_inputs.proofs.AnswerLemmas.{IsAnswer, answer-err, memory-err, value-no, value-one}
use Rattle.r3_inputs.specs.Inputs.{IsModuleOf, IsRefusedModule, IsRefusedScript, AreInputs, AreRefused, ByModule, ByScript}
use Rattle.accepted_runs.specs.Runnable.{AreTaken}

-- a module and a script
abbrev pub both : Module → Script → Module × Script
both m script = (m, script)

-- ---- the answer for a module, and for a script

err-answer : {T : Type 0} (r : Result T Fault) (fault wanted : Fault) → r ≡ Err fault → (fault ≡ wanted) ⊎ (fault ≡ Memory) → IsAnswer r wanted
err-answer r fault wanted e (inl same) = inl (e ∙ ap Err same)
err-answer r fault wanted e (inr memory) = inr (e ∙ ap Err memory)

module _ (module_bytes script_bytes : List ℕ) (q : Result Module Fault)
    (refused : (f : Fault) → IsRefusedModule module_bytes f → IsAnswer q f)
    (accepted : (m : Module) → IsModuleOf module_bytes m → (q ≡ Ok m) ⊎ (q ≡ Err Memory)) where
  -- a module that is not taken
  module _ (err : Fault) (is : q ≡ Err err) where
    pub module-refused : {T : Type 0} (r : Result T Fault) → r ≡ Err err → (fault : Fault) → AreRefused module_bytes script_bytes fault → IsAnswer r fault
    module-refused r e fault (ByModule x) = err-answer r err fault e (answer-err q err fault is (refused fault x))
    module-refused r e fault (ByScript m taken x) = err-answer r err fault e (inr (memory-err q m err is (accepted m taken)))

    pub module-accepted : {T : Type 0} (r : Result T Fault) (x : T) → r ≡ Err err → (m : Module) → IsModuleOf module_bytes m → (r ≡ Ok x) ⊎ (r ≡ Err Memory)
    module-accepted r x e m taken = inr (e ∙ ap Err (memory-err q m err is (accepted m taken)))

  -- a module that is taken
  module _ (checked : Module) (is : q ≡ Ok checked) (s : Result Script Fault)
      (script-refused : (f : Fault) → IsRefusedScript checked script_bytes f → IsAnswer s f)
      (script-accepted : (script : Script) → script_of_text checked script_bytes ≡ Ok script
      → (s ≡ Ok script) ⊎ (s ≡ Err Memory)) where
    same : (m : Module) → IsModuleOf module_bytes m → m ≡ checked
    same m taken = value-one q checked m is (accepted m taken)

    for-module : (m : Module) (script : Script) → AreInputs module_bytes script_bytes m script → (s ≡ Ok script) ⊎ (s ≡ Err Memory)
    for-module m script inputs =
        script-accepted script (subst (λ m. script_of_text m script_bytes ≡ Ok script) (same m inputs.is_module) inputs.is_script)

    refused-for : (m : Module) (fault : Fault) → IsModuleOf module_bytes m → IsRefusedScript m script_bytes fault → IsAnswer s fault
    refused-for m fault taken x = script-refused fault (subst (λ m. IsRefusedScript m script_bytes fault) (same m taken) x)

    -- a script that is not taken
    module _ (err : Fault) (at : s ≡ Err err) where
      pub script-not-taken : {T : Type 0} (r : Result T Fault) → r ≡ Err err → (fault : Fault) → AreRefused module_bytes script_bytes fault → IsAnswer r fault
      script-not-taken r e fault (ByModule x) = absurd (value-no q checked fault is (refused fault x))
      script-not-taken r e fault (ByScript m taken x) = err-answer r err fault e (answer-err s err fault at (refused-for m fault taken x))

      pub script-wanted : {T : Type 0} (r : Result T Fault) (x : T) → r ≡ Err err → (m : Module) (script : Script)
          → AreInputs module_bytes script_bytes m script → (r ≡ Ok x) ⊎ (r ≡ Err Memory)
      script-wanted r x e m script inputs = inr (e ∙ ap Err (memory-err s script err at (for-module m script inputs)))

    -- a script that is taken
    module _ (script : Script) (at : s ≡ Ok script) where
      pub both-refused : (fault : Fault) → AreRefused module_bytes script_bytes fault → ⊥
      both-refused fault (ByModule x) = value-no q checked fault is (refused fault x)
      both-refused fault (ByScript m taken x) = value-no s script fault at (refused-for m fault taken x)

      pub both-same : (m : Module) (other : Script) → AreInputs module_bytes script_bytes m other → both checked script ≡ both m other
      both-same m other inputs =
          ap (λ n. both n script) (sym (same m inputs.is_module)) ∙ ap (both m) (sym (value-one s script other at (for-module m other inputs)))

-- ---- calls that begin with both

-- the bytes are this module and this script
abbrev pub AreBoth : (module_bytes script_bytes : List ℕ) → Module × Script → Type 0
AreBoth module_bytes script_bytes read = AreInputs module_bytes script_bytes read.0 read.1

-- a call that reads both is exact
pub inputs_exact : (module_bytes script_bytes : List ℕ) (q : Result (Module × Script) Fault)
    → IfOk q (λ read. AreTaken module_bytes script_bytes read.0 read.1)
    → IfErr q (λ fault. (fault ≡ Memory) ⊎ AreRefused module_bytes script_bytes fault)
    → ((f : Fault) → AreRefused module_bytes script_bytes f → IsAnswer q f)
    → ((m : Module) (script : Script) → AreInputs module_bytes script_bytes m script
    → (q ≡ Ok (m, script)) ⊎ (q ≡ Err Memory))
    → IsExactValue (AreBoth module_bytes script_bytes) (AreRefused module_bytes script_bytes) q
inputs_exact module_bytes script_bytes q taken cause refused accepted = record {
  taken =
      IfOk-weaker q (λ read. AreTaken module_bytes script_bytes read.0 read.1) (AreBoth module_bytes script_bytes)
      (λ read is. is.inputs) taken;
  cause = cause;
  refused = refused;
  accepted = λ read is. accepted read.0 read.1 is;
}
