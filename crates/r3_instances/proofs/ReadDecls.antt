-- What the result of reading declarations implies for a call.
use Rattle.std.proofs.Common.{◌≡◌, ◌⊎◌, inl, inr, ℕ, List, Result, Ok, Err, IfOk, IfErr, refl, sym, ◌∙◌, ap, subst}
use Rattle.wasm_syntax.specs.declared.modules.Module.{Module}
use Rattle.instance_spec.specs.declared.decls.Decl.{Decl}
use Rattle.decl_text.specs.declared.faults.DeclFault.{DeclFault}
use Rattle.decl_text.specs.declared.faults.DeclFault.TheVariants as decl
use Rattle.decl_text.specs.Texts.{decls_of_text}
use Rattle.decl_text.specs.Walk.{Gives}
use Rattle.r3_faults.specs.Answers.{IsExactValue}
use Rattle.r3_faults.specs.declared.faults.Fault.{Fault}
use Rattle.r3_faults.specs.declared.faults.Fault.TheVariants.{Memory}
use Rattle.r3_instances.specs.ForeignInputs.{decl_fault, IsRefusedDecls}
use Rattle.r3_instances.specs.declared.declared_modules.DeclaredModule.{DeclaredModule}
use Rattle.r3_instances.proofs.FileStages.{IsDeclaredBy}

module _ (m : Module) (bytes : List ℕ) where
  -- the declarations that the bytes are
  abbrev pub AreRead : List Decl → Type 0
  AreRead decls = decls_of_text m bytes ≡ Ok decls

  one_fault : (meant : Result (List Decl) DeclFault) (f g : DeclFault) → meant ≡ Err f → meant ≡ Err g → g ≡ f
  one_fault meant f g e h = cc (sym e ∙ h)

  one_value : (meant : Result (List Decl) DeclFault) (a b : List Decl) → meant ≡ Ok a → meant ≡ Ok b → a ≡ b
  one_value meant a b e h = cc (sym e ∙ h)

  not_both : (meant : Result (List Decl) DeclFault) (f : DeclFault) (a : List Decl) → meant ≡ Err f → meant ≡ Ok a → ⊥
  not_both meant f a e h = cc (sym e ∙ h)

  pub read_answer : (decls : List Decl) → AreRead decls → IsExactValue AreRead (IsRefusedDecls m bytes) (Ok decls)
  read_answer decls is = record {
    taken = is;
    cause = tt;
    refused = λ fault refusal. absurd (not_both (decls_of_text m bytes) refusal.found decls refusal.first is);
    accepted = λ other read. inl (ap Ok (one_value (decls_of_text m bytes) decls other is read));
  }

  -- the same declarations, with their module
  abbrev with_module : Result (List Decl) Fault → Result DeclaredModule Fault
  with_module (Ok decls) = Ok (record { checked = m; decls = decls })
  with_module (Err fault) = Err fault

  pub module_answer : (q : Result (List Decl) Fault) → IsExactValue AreRead (IsRefusedDecls m bytes) q
      → IsExactValue (IsDeclaredBy bytes m) (IsRefusedDecls m bytes) (with_module q)
  module_answer q is = record {
    taken = taken_by q is.taken;
    cause = cause_by q is.cause;
    refused = λ fault refusal. refused_by q fault (is.refused fault refusal);
    accepted = λ declared read. accepted_by q declared read.0 (is.accepted declared.decls read.1);
  }
    where
      taken_by : (q : Result (List Decl) Fault) → IfOk q AreRead → IfOk (with_module q) (IsDeclaredBy bytes m)
      taken_by (Ok decls) read = (refl, read)
      taken_by (Err fault) read = tt

      cause_by : (q : Result (List Decl) Fault) → IfErr q (λ fault. (fault ≡ Memory) ⊎ IsRefusedDecls m bytes fault)
          → IfErr (with_module q) (λ fault. (fault ≡ Memory) ⊎ IsRefusedDecls m bytes fault)
      cause_by (Ok decls) cause = tt
      cause_by (Err fault) cause = cause

      refused_by : (q : Result (List Decl) Fault) (fault : Fault) → (q ≡ Err fault) ⊎ (q ≡ Err Memory)
          → (with_module q ≡ Err fault) ⊎ (with_module q ≡ Err Memory)
      refused_by q fault (inl e) = inl (ap with_module e)
      refused_by q fault (inr e) = inr (ap with_module e)

      accepted_by : (q : Result (List Decl) Fault) (declared : DeclaredModule) → declared.checked ≡ m
          → (q ≡ Ok declared.decls) ⊎ (q ≡ Err Memory)
          → (with_module q ≡ Ok declared) ⊎ (with_module q ≡ Err Memory)
      accepted_by q declared same (inl e) =
          inl (ap with_module e ∙ ap (λ m. Ok (record { checked = m; decls = declared.decls })) (sym same))
      accepted_by q declared same (inr e) = inr (ap with_module e)

  -- a call that reads them
  pub module_taken : (q : Result (List Decl) Fault) (decls : List Decl) → q ≡ Ok decls
      → IsExactValue AreRead (IsRefusedDecls m bytes) q
      → IsExactValue (IsDeclaredBy bytes m) (IsRefusedDecls m bytes) (Ok (record { checked = m; decls = decls }))
  module_taken q decls e is =
      subst (λ q. IsExactValue (IsDeclaredBy bytes m) (IsRefusedDecls m bytes) (with_module q)) e (module_answer q is)

  pub module_refused : (q : Result (List Decl) Fault) (fault : Fault) → q ≡ Err fault
      → IsExactValue AreRead (IsRefusedDecls m bytes) q
      → IsExactValue (IsDeclaredBy bytes m) (IsRefusedDecls m bytes) (Err fault)
  module_refused q fault e is =
      subst (λ q. IsExactValue (IsDeclaredBy bytes m) (IsRefusedDecls m bytes) (with_module q)) e (module_answer q is)
