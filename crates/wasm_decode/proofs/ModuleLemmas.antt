-- The plain program, by what the sections after the preamble are.
use Rattle.std.proofs.Common.{◌≡◌, ℕ, ◌<◌, ◌-◌, List, [], ◌∷◌, length, take, drop, Option, Some, None, true, false, cond, refl, ap, sym, ◌∙◌, subst, arith}
use Rattle.std.specs.Prelude.{nat_eq, option_map, option_and_then}
use lib.Pointwise.{pointwise}
use Rattle.wasm_syntax.specs.declared.forms.Form.{Form}
use Rattle.wasm_syntax.specs.declared.modules.Module.{Module}
use Rattle.wasm_syntax.specs.Encoding.Sections.{Section}
use Rattle.wasm_syntax.specs.Encoding.Modules.{preamble}
use Rattle.wasm_syntax.specs.Encoding.ReadModules.{lawful_sections, read_sections, whole_module, read_module, place_after, fault_place}
use Rattle.wasm_decode.specs.declared.draft.Draft.{Draft}
use Rattle.wasm_decode.specs.Drafts.{empty_draft, draft_with_all, draft_with_read, module_of_draft}
use Rattle.wasm_decode.proofs.PreambleLemmas.{taken_off}
use Rattle.wasm_decode.proofs.DraftLemmas.{drafted}
use Rattle.wasm_decode.proofs.SectionLemmas.{read_in_order}

module _ (form : Form) (bytes : List ℕ) where
  pub not_begun : pointwise nat_eq (take 8 bytes) preamble ≡ false
      → (read_module form bytes ≡ None) × (0 ≡ fault_place form bytes)
  unfolding read_module fault_place read_sections
  not_begun e =
      let off = taken_off preamble bytes
      ∙ ap (λ b. cond {A = Option (Unit {0} × List ℕ)} b (Some (tt, drop 8 bytes)) None) e in (
        ap (λ (o : Option (Unit {0} × List ℕ)).
            option_and_then (λ (read : List Section × List ℕ). whole_module read.0 read.1)
            (option_map (λ (begun : Unit {0} × List ℕ). lawful_sections form (length bytes) 0 begun.1) o)) off,
        sym (ap (λ (o : Option (Unit {0} × List ℕ)). place_after (length bytes)
            (option_map (λ (begun : Unit {0} × List ℕ). lawful_sections form (length bytes) 0 begun.1) o)) off),
      )

  sections : (after : List ℕ) → pointwise nat_eq (take 8 bytes) preamble ≡ true → after ≡ drop 8 bytes
      → read_sections form bytes ≡ Some (lawful_sections form (length bytes) 0 after)
  unfolding read_sections
  sections after e same =
      ap (option_map (λ (begun : Unit {0} × List ℕ). lawful_sections form (length bytes) 0 begun.1))
      (taken_off preamble bytes ∙ ap (λ b. cond {A = Option (Unit {0} × List ℕ)} b (Some (tt, drop 8 bytes)) None) e
      ∙ ap (λ r. Some (tt, r)) (sym same))

  -- the draft and the rest are what was read
  abbrev pub AreRead : List ℕ → Draft → List ℕ → Type 0
  AreRead after draft rest = (draft, rest) ≡ draft_with_read empty_draft (lawful_sections form (length bytes) 0 after)

  pub place : (after : List ℕ) (draft : Draft) (rest : List ℕ) → pointwise nat_eq (take 8 bytes) preamble ≡ true
      → after ≡ drop 8 bytes → AreRead after draft rest
      → length bytes - length rest ≡ fault_place form bytes
  unfolding fault_place
  place after draft rest e same read =
      ap (λ (it : Draft × List ℕ). length bytes - length it.1) read
      ∙ sym (ap (place_after (length bytes)) (sections after e same))

  module_read : (after : List ℕ) → pointwise nat_eq (take 8 bytes) preamble ≡ true → after ≡ drop 8 bytes
      → read_module form bytes
      ≡ whole_module (lawful_sections form (length bytes) 0 after).0
      (lawful_sections form (length bytes) 0 after).1
  unfolding read_module
  module_read after e same =
      ap (option_and_then (λ (read : List Section × List ℕ). whole_module read.0 read.1)) (sections after e same)

  pub left_over : (after : List ℕ) (draft : Draft) (rest : List ℕ) → pointwise nat_eq (take 8 bytes) preamble ≡ true
      → after ≡ drop 8 bytes → AreRead after draft rest
      → 0 < length rest → read_module form bytes ≡ None
  left_over after draft rest e same read some =
      module_read after e same
      ∙ go (lawful_sections form (length bytes) 0 after).1
      (subst (λ (it : Draft × List ℕ). 0 < length it.1) read some)
    where
      go : (left : List ℕ) → 0 < length left → whole_module (lawful_sections form (length bytes) 0 after).0 left ≡ None
      go [] s = absurd (omega arith)
      go (b ∷ left) s = refl

  pub all_read : (after : List ℕ) (draft : Draft) (rest : List ℕ) (m : Option Module)
      → pointwise nat_eq (take 8 bytes) preamble ≡ true → after ≡ drop 8 bytes → AreRead after draft rest
      → rest ≡ [] → m ≡ module_of_draft draft → read_module form bytes ≡ m
  all_read after draft rest m e same read none fit =
      let read-all = lawful_sections form (length bytes) 0 after in
      let ended : read-all.1 ≡ [] = subst (λ (it : Draft × List ℕ). it.1 ≡ []) read none in
      let held : draft ≡ draft_with_all read-all.0 empty_draft = ap (λ (it : Draft × List ℕ). it.0) read in
      module_read after e same ∙ ap (whole_module read-all.0) ended
      ∙ sym (drafted read-all.0 (read_in_order form (length bytes) 0 after)) ∙ sym (ap module_of_draft held) ∙ sym fit
