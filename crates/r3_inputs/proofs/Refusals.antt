-- Bytes encode at most one accepted module, and are otherwise refused for one fault.
use Rattle.std.proofs.Common.{◌≡◌, ◌≢◌, ◌↔◌, ◌⊎◌, inl, inr, ℕ, ◌+◌, ◌<◌, ◌≤◌, ◌^◌, List, [], ◌∷◌, Option, Some, Result, Ok, Err, IfOk, IfErr, length, All, get_or, refl, sym, ◌∙◌, ap, subst, arith, Bool}
use Rattle.std.specs.List.{slice_get, AllByRecursion}
use Rattle.std.proofs.lemmas.List.Elements.{All-head, All-tail}
use Rattle.base.proofs.Options.{none_some, same_some}
use Rattle.wasm_syntax.specs.declared.forms.Form.{Form}
use Rattle.wasm_syntax.specs.declared.modules.Module.{Module}
use Rattle.wasm_syntax.specs.declared.modules.Func.{Func}
use Rattle.wasm_syntax.specs.Encoding.Modules.{Encodes, IsFaultPlace}
use Rattle.wasm_syntax.specs.Validity.{IsValid, IsInvalidAt}
use Rattle.wasm_syntax.specs.ValidityTests.{invalid_at}
use Rattle.wasm_syntax.specs.Profile.{Refusal, IsAccepted, first_refusal}
use Rattle.wasm_syntax.proofs.Places.{not_both}
use Rattle.r3_faults.specs.declared.faults.Fault.{Fault}
use Rattle.r3_faults.specs.declared.faults.Fault.TheVariants.{Malformed, Memory}
use Rattle.r3_inputs.specs.declared.module_files.ModuleFile.{ModuleFile}
use Rattle.r3_inputs.specs.ModuleFiles.{form_of, is_instrumented}
use Rattle.r3_inputs.specs.Inputs.{invalid_fault, refusal_fault, IsModuleIn, IsRefusedIn, ByBytes, ByRules, ByProfile}

-- an accepted module has no refusal
no-refusal : (hooked : Bool) (m : Module) (refusal : Refusal) → IsAccepted hooked m → first_refusal hooked m ≡ Some refusal → ⊥
no-refusal hooked m refusal accepted first =
    none_some (first_refusal hooked m) refusal (ap (λ refusals. slice_get refusals 0) accepted.none_refused) first

module _ (file : ModuleFile) (one : (form : Form) (bytes : List ℕ) (m n : Module) → Encodes form bytes m → Encodes form bytes n → m ≡ n)
    (place-one : (form : Form) (bytes : List ℕ) (a b : ℕ) → IsFaultPlace form bytes a → IsFaultPlace form bytes b → a
    ≡ b)
    (invalid-decided : (m : Module) (place : Option ℕ) → IsInvalidAt m place ↔ (invalid_at m ≡ Some place)) where
  -- a refused module is not accepted
  refused-not_taken : (bytes : List ℕ) (fault : Fault) (m : Module) → IsRefusedIn file bytes fault → IsModuleIn file bytes m
      → ⊥
  refused-not_taken bytes fault m (ByBytes malformed) taken = malformed.none m taken.encoded
  refused-not_taken bytes fault m (ByRules n encoded invalid) taken =
      not_both n invalid.place (subst IsValid (one (form_of file) bytes m n taken.encoded encoded) taken.accepted.valid)
      invalid.invalid
  refused-not_taken bytes fault m (ByProfile n encoded valid refused) taken =
      no-refusal (is_instrumented file) n refused.refusal
      (subst (IsAccepted (is_instrumented file)) (one (form_of file) bytes m n taken.encoded encoded) taken.accepted) refused.first

  -- a module is refused for at most one fault
  refusal-one : (bytes : List ℕ) (f g : Fault) → IsRefusedIn file bytes f → IsRefusedIn file bytes g → f ≡ g
  refusal-one bytes f g (ByBytes a) (ByBytes b) =
      a.named ∙ ap Malformed (place-one (form_of file) bytes a.at b.at a.place b.place) ∙ sym b.named
  refusal-one bytes f g (ByBytes a) (ByRules m encoded b) = absurd (a.none m encoded)
  refusal-one bytes f g (ByBytes a) (ByProfile m encoded valid b) = absurd (a.none m encoded)
  refusal-one bytes f g (ByRules m encoded a) (ByBytes b) = absurd (b.none m encoded)
  refusal-one bytes f g (ByRules m encoded a) (ByRules n other b) =
      let same = subst (λ m. IsInvalidAt m a.place) (one (form_of file) bytes m n encoded other) a.invalid in
      a.named ∙ ap invalid_fault
      (same_some (invalid_at n) a.place b.place ((invalid-decided n a.place).0 same)
      ((invalid-decided n b.place).0 b.invalid)) ∙ sym b.named
  refusal-one bytes f g (ByRules m encoded a) (ByProfile n other valid b) =
      absurd (not_both n a.place valid
      (subst (λ m. IsInvalidAt m a.place) (one (form_of file) bytes m n encoded other) a.invalid))
  refusal-one bytes f g (ByProfile m encoded valid a) (ByBytes b) = absurd (b.none m encoded)
  refusal-one bytes f g (ByProfile m encoded valid a) (ByRules n other b) =
      absurd (not_both n b.place (subst IsValid (one (form_of file) bytes m n encoded other) valid) b.invalid)
  refusal-one bytes f g (ByProfile m encoded valid a) (ByProfile n other valid' b) =
      let same = subst (λ m. first_refusal (is_instrumented file) m ≡ Some a.refusal) (one (form_of file) bytes m n encoded other) a.first in
      a.named ∙ ap refusal_fault (same_some (first_refusal (is_instrumented file) n) a.refusal b.refusal same b.first) ∙ sym b.named

  -- a result with its cause, for a refusal; for an accepted module
  pub refused-answered : (r : Result Module Fault) (bytes : List ℕ) (fault : Fault) → IfOk r (λ m. IsModuleIn file bytes m)
      → IfErr r (λ f. (f ≡ Memory) ⊎ IsRefusedIn file bytes f) → IsRefusedIn file bytes fault
      → (r ≡ Err fault) ⊎ (r ≡ Err Memory)
  refused-answered (Ok m) bytes fault taken cause refused = absurd (refused-not_taken bytes fault m refused taken)
  refused-answered (Err f) bytes fault taken (inl memory) refused = inr (ap Err memory)
  refused-answered (Err f) bytes fault taken (inr other) refused =
      inl (ap Err (refusal-one bytes f fault other refused))

  pub accepted-answered : (r : Result Module Fault) (bytes : List ℕ) (m : Module) → IfOk r (λ m. IsModuleIn file bytes m)
      → IfErr r (λ f. (f ≡ Memory) ⊎ IsRefusedIn file bytes f) → IsModuleIn file bytes m → (r ≡ Ok m) ⊎ (r ≡ Err Memory)
  accepted-answered (Ok n) bytes m taken cause is = inl (ap Ok (one (form_of file) bytes n m taken.encoded is.encoded))
  accepted-answered (Err f) bytes m taken (inl memory) is = inr (ap Err memory)
  accepted-answered (Err f) bytes m taken (inr refused) is = absurd (refused-not_taken bytes f m refused is)
