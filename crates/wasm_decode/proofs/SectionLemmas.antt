-- Sections one after another, as far as they are whole and in lawful order.
use Rattle.std.proofs.Common.{◌≡◌, ℕ, zero, suc, ◌<◌, ◌≤◌, List, [], length, Option, Some, None, cond, refl, ap, sym, ◌∙◌, subst, arith, eq-eqb, ne_eqb, ◌≢◌}
use Rattle.std.specs.Prelude.{nat_lt, nat_eq, option_map, option_and_then}
use Rattle.std.proofs.lemmas.Bool.{lt-ltb, le-ltb}
use Rattle.std.proofs.lemmas.Option.{same_Some, none-some}
use Rattle.wasm_syntax.specs.declared.forms.Form.{Form}
use Rattle.wasm_syntax.specs.Encoding.Sections.{Section, CustomSection, id_of}
use Rattle.wasm_syntax.specs.Encoding.Modules.{AreInOrder}
use Rattle.wasm_syntax.specs.Encoding.ReadModules.{first_section, last_after, with_last, next_section, with_section, lawful_sections}
use Rattle.wasm_syntax.proofs.Encoding.Order.{behind_order}
use Rattle.wasm_decode.specs.declared.draft.Draft.{Draft}
use Rattle.wasm_decode.specs.Drafts.{draft_with, draft_with_read}

-- whether a section may come, and the last id after it, by its id alone
pub by_id : (last : ℕ) (section : Section)
    → last_after last section
    ≡ cond (nat_eq (id_of section) 0) (Some last) (cond (nat_lt last (id_of section)) (Some (id_of section)) None)
by_id last (CustomSection custom) = refl
by_id last section = refl

-- the last id after a section that may come
last_of : (last : ℕ) (o : Option (Section × List ℕ)) (next : Section × ℕ × List ℕ)
    → option_and_then (with_last last) o ≡ Some next → last_after last next.0 ≡ Some next.1
last_of last None next e = absurd (none-some next e)
last_of last (Some first) next e = go (last_after last first.0) refl e
  where
    go : (o : Option ℕ) → last_after last first.0 ≡ o → option_map (λ (id : ℕ). (first.0, id, first.1)) o ≡ Some next
        → last_after last next.0 ≡ Some next.1
    go None b f = absurd (none-some next f)
    go (Some id) b f =
        subst (λ (n : Section × ℕ × List ℕ). last_after last n.0 ≡ Some n.1)
        (same_Some (first.0, id, first.1) next f) b

module _ (form : Form) where
  may_come : (last : ℕ) (bytes : List ℕ) (next : Section × ℕ × List ℕ) → next_section form last bytes ≡ Some next
      → last_after last next.0 ≡ Some next.1
  unfolding next_section
  may_come last bytes next e = last_of last (first_section form bytes) next e

  -- the next section, by the front of the bytes
  pub none_is_next : (last : ℕ) (bytes : List ℕ) → first_section form bytes ≡ None → None ≡ next_section form last bytes
  unfolding next_section
  none_is_next last bytes e = sym (ap (option_and_then (with_last last)) e)

  by_front : (last : ℕ) (bytes rest : List ℕ) (section : Section) (o : Option ℕ)
      → first_section form bytes ≡ Some (section, rest)
      → last_after last section ≡ o → option_map (λ (id : ℕ). (section, id, rest)) o ≡ next_section form last bytes
  unfolding next_section
  by_front last bytes rest section o e b =
      sym (ap (option_and_then (with_last last)) e ∙ ap (option_map (λ (id : ℕ). (section, id, rest))) b)

  pub custom_is_next : (last : ℕ) (bytes rest : List ℕ) (section : Section)
      → first_section form bytes ≡ Some (section, rest)
      → id_of section ≡ 0 → Some (section, last, rest) ≡ next_section form last bytes
  custom_is_next last bytes rest section e is-custom =
      by_front last bytes rest section (Some last) e (by_id last section ∙ rw (eq-eqb (id_of section) 0 is-custom) refl)

  pub late_is_none : (last : ℕ) (bytes rest : List ℕ) (section : Section)
      → first_section form bytes ≡ Some (section, rest)
      → (id_of section ≢ 0) → id_of section ≤ last → None ≡ next_section form last bytes
  late_is_none last bytes rest section e other late =
      by_front last bytes rest section None e
      (by_id last section ∙ rw (ne_eqb (id_of section) 0 other, le-ltb last (id_of section) late) refl)

  pub later_is_next : (last : ℕ) (bytes rest : List ℕ) (section : Section)
      → first_section form bytes ≡ Some (section, rest)
      → (id_of section ≢ 0) → last < id_of section → Some (section, id_of section, rest) ≡ next_section form last bytes
  later_is_next last bytes rest section e other later =
      by_front last bytes rest section (Some (id_of section)) e
      (by_id last section ∙ rw (ne_eqb (id_of section) 0 other, lt-ltb last (id_of section) later) refl)

  -- the sections that are read are in lawful order
  pub read_in_order : (most last : ℕ) (bytes : List ℕ) → AreInOrder last (lawful_sections form most last bytes).0
  unfolding lawful_sections
  read_in_order zero last bytes = tt
  read_in_order (suc most) last bytes = go (λ id rest. read_in_order most id rest) (next_section form last bytes) refl
    where
      go : ((id : ℕ) (rest : List ℕ) → AreInOrder id (lawful_sections form most id rest).0)
          → (o : Option (Section × ℕ × List ℕ)) → next_section form last bytes ≡ o
          → AreInOrder last (elim o as (λ x. List Section × List ℕ) [
            | None ↦ ([], bytes)
            | Some next ↦ with_section next.0 (lawful_sections form most next.1 next.2)
          ]).0
      go further None e = tt
      go further (Some next) e =
          behind_order last next.1 next.0 (lawful_sections form most next.1 next.2).0 (may_come last bytes next e)
          (further next.1 next.2)

  -- if no section comes, nothing more is read
  pub ends : (most last : ℕ) (bytes : List ℕ) → next_section form last bytes ≡ None
      → lawful_sections form most last bytes ≡ ([], bytes)
  unfolding lawful_sections
  ends zero last bytes e = refl
  ends (suc most) last bytes e =
      ap (λ (o : Option (Section × ℕ × List ℕ)). elim o as (λ x. List Section × List ℕ)
      [ None ↦ ([], bytes) | Some next ↦ with_section next.0 (lawful_sections form most next.1 next.2) ]) e

  one_more : (most last : ℕ) (bytes : List ℕ) (next : Section × ℕ × List ℕ) → next_section form last bytes ≡ Some next
      → lawful_sections form (suc most) last bytes ≡ with_section next.0 (lawful_sections form most next.1 next.2)
  unfolding lawful_sections
  one_more most last bytes next e =
      ap (λ (o : Option (Section × ℕ × List ℕ)). elim o as (λ x. List Section × List ℕ)
      [ None ↦ ([], bytes) | Some next ↦ with_section next.0 (lawful_sections form most next.1 next.2) ]) e

  -- the sections that will be read from here, put into the draft, give the draft of all
  abbrev pub Stands : Draft × List ℕ → ℕ → ℕ → List ℕ → Draft → Type 0
  Stands all most last bytes draft =
      (length bytes ≤ most) × (draft_with_read draft (lawful_sections form most last bytes) ≡ all)

  pub goes_on : (all : Draft × List ℕ) (last : ℕ) (bytes : List ℕ) (draft : Draft) (next : Section × ℕ × List ℕ)
      → next_section form last bytes ≡ Some next → length next.2 < length bytes
      → (most : ℕ) × Stands all most last bytes draft
      → (most : ℕ) × Stands all most next.1 next.2 (draft_with next.0 draft)
  goes_on all last bytes draft next e fewer (zero, h) = absurd (omega arith)
  goes_on all last bytes draft next e fewer (suc most, h) =
      (most, (omega arith, sym (ap (draft_with_read draft) (one_more most last bytes next e)) ∙ h.1))

  pub is_all : (all : Draft × List ℕ) (last : ℕ) (bytes : List ℕ) (draft : Draft)
      → next_section form last bytes ≡ None → (most : ℕ) × Stands all most last bytes draft → (draft, bytes) ≡ all
  is_all all last bytes draft e h = sym (ap (draft_with_read draft) (ends h.0 last bytes e)) ∙ h.1.1
