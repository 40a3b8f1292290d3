-- The result of decoding, by the grammar, from its result by the plain program.
use Rattle.std.proofs.Common.{◌≡◌, ℕ, ◌<◌, ◌⊎◌, List, length, All, Some, Result, Ok, Err, ap, sym, ◌∙◌, subst, inl, inr, refl}
use Rattle.std.specs.Prelude.{IfOk, IfErr}
use Rattle.std.proofs.lemmas.Option.{none-some, same_Some}
use Rattle.wasm_syntax.specs.declared.forms.Form.{Form}
use Rattle.wasm_syntax.specs.declared.forms.Form.TheVariants.{Core}
use Rattle.wasm_syntax.specs.declared.modules.Module.{Module}
use Rattle.wasm_syntax.specs.Encoding.Forms.{IsCoreModule}
use Rattle.wasm_syntax.specs.Encoding.Modules.{Encodes, IsFaultPlace}
use Rattle.wasm_syntax.specs.Encoding.ReadModules.{fault_place, read_module}
use Rattle.wasm_syntax.specs.ListsWithin.{HasListsWithin, ListsAreWithinEncoding}
use Rattle.wasm_decode.specs.DecodeResults.{IsRead, IsFaultOf}
use Rattle.wasm_decode.specs.declared.modules.DecodeFault.{DecodeFault}
use Rattle.wasm_decode.specs.declared.modules.DecodeFault.TheVariants.{Malformed, Memory}
use Rattle.wasm_decode.proofs.Segments.{segments_hold_bytes}

module _ (form : Form) (bytes : List ℕ) where
  pub only : (answer : Result Module DecodeFault) (m : Module) → read_module form bytes ≡ Some m
      → IsRead form bytes answer → (answer ≡ Ok m) ⊎ (answer ≡ Err Memory)
  only (Ok n) m e h = inl (ap Ok (same_Some n m (sym h ∙ e)))
  only (Err Memory) m e h = inr refl
  only (Err (Malformed at)) m e h = absurd (none-some m (sym h.0 ∙ e))

  pub fault : (answer : Result Module DecodeFault)
      → ((m : Module) → Encodes form bytes m → read_module form bytes ≡ Some m)
      → IsFaultPlace form bytes (fault_place form bytes)
      → IsRead form bytes answer → IfErr answer (λ f. IsFaultOf form bytes f)
  fault (Ok n) read place h = tt
  fault (Err Memory) read place h = tt
  fault (Err (Malformed at)) read place h =
      (λ m encoded. none-some m (sym h.0 ∙ read m encoded), subst (IsFaultPlace form bytes) (sym h.1) place)

  pub held : (answer : Result Module DecodeFault)
      → ((m : Module) → read_module form bytes ≡ Some m → Encodes form bytes m) → All (λ b. b < 256) bytes
      → IsRead form bytes answer → IfOk answer (λ m. All (λ segment. All (λ byte. byte < 256) segment.bytes) m.datas)
  held (Ok n) encoded small h = segments_hold_bytes form bytes n small (encoded n h)
  held (Err f) encoded small h = tt

  pub of_form : (answer : Result Module DecodeFault)
      → ((m : Module) → read_module form bytes ≡ Some m → Encodes form bytes m)
      → ((m : Module) → Encodes Core bytes m → IsCoreModule m) → IsRead form bytes answer
      → IfOk answer (λ m. form ≡ Core → IsCoreModule m)
  of_form (Ok n) encoded core h = λ same. core n (subst (λ f. Encodes f bytes n) same (encoded n h))
  of_form (Err f) encoded core h = tt

  pub lists_within : (answer : Result Module DecodeFault)
      → ((m : Module) → read_module form bytes ≡ Some m → Encodes form bytes m)
      → ListsAreWithinEncoding → IsRead form bytes answer → IfOk answer (λ m. HasListsWithin (length bytes) m)
  lists_within (Ok n) encoded within h = within form bytes n (encoded n h)
  lists_within (Err f) encoded within h = tt
