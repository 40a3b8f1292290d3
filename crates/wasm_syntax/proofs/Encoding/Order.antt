-- Sections in lawful order, as far as they are whole.
use Rattle.std.proofs.Common.{◌≡◌, ℕ, zero, suc, ◌<◌, ◌≤◌, List, [], ◌∷◌, ◌++◌, length, Option, Some, None, refl, ap, sym, ◌∙◌, subst, append_assoc, arith}
use Rattle.std.specs.Prelude.{option_map, option_and_then, nat_lt}
use Rattle.std.proofs.lemmas.Bool.{lt-ltb, ltb-true}
use Rattle.std.proofs.lemmas.List.{length-append}
use Rattle.std.proofs.lemmas.Option.{same_Some}
use Rattle.base.proofs.Options.{map_some, and_then_some, cond_some}
use Rattle.wasm_syntax.specs.declared.forms.Form.{Form}
use Rattle.wasm_syntax.specs.Encoding.Grammar.{Each}
use Rattle.wasm_syntax.specs.Encoding.Sections.{Section, CustomSection, id_of, EncodesSection}
use Rattle.wasm_syntax.specs.Encoding.Modules.{AreInOrder}
use Rattle.wasm_syntax.specs.Encoding.ReadModules.{first_section, last_after, with_last, next_section, with_section, lawful_sections}
use Rattle.wasm_syntax.proofs.Encoding.Numbers.{NumberLaws}
use Rattle.wasm_syntax.proofs.Encoding.Expressions.{some_bytes, fewer_items}
use Rattle.wasm_syntax.proofs.Encoding.Sections.{section_is}

pub order_behind : (last : ℕ) (section : Section) (rest : List Section) → AreInOrder last (section ∷ rest)
    → (id : ℕ) × (last_after last section ≡ Some id) × AreInOrder id rest
order_behind last (CustomSection custom) rest h = (last, refl, h)
order_behind last section rest h = (id_of section, rw (lt-ltb last (id_of section) h.0) refl, h.1)

pub behind_order : (last id : ℕ) (section : Section) (rest : List Section) → last_after last section ≡ Some id
    → AreInOrder id rest → AreInOrder last (section ∷ rest)
behind_order last id (CustomSection custom) rest e h = subst (λ i. AreInOrder i rest) (sym (same_Some last id e)) h
behind_order last id section rest e h =
    let g = cond_some (nat_lt last (id_of section)) (Some (id_of section)) id e in
    (ltb-true last (id_of section) g.0, subst (λ i. AreInOrder i rest) (sym (same_Some (id_of section) id g.1)) h)

-- what was read of the sections
pub record Reads (form : Form) (last : ℕ) (input : List ℕ) (result : List Section × List ℕ) : Type 0 where
  pub bytes : List ℕ
  pub each : Each (EncodesSection form) bytes result.0
  pub in_order : AreInOrder last result.0
  pub split : input ≡ bytes ++ result.1

module _ (laws : NumberLaws) (form : Form) where
  section_bytes : (bytes : List ℕ) (section : Section) → EncodesSection form bytes section → 0 < length bytes
  unfolding first_section
  section_bytes = some_bytes (EncodesSection form) (first_section form) (section_is laws form) refl

  pub few_sections : (bytes : List ℕ) (sections : List Section) → Each (EncodesSection form) bytes sections
      → length sections ≤ length bytes
  few_sections = fewer_items (EncodesSection form) section_bytes

  next_found : (last : ℕ) (input : List ℕ) (next : Section × ℕ × List ℕ) → next_section form last input ≡ Some next
      → (last_after last next.0 ≡ Some next.1) × (bytes : List ℕ) × EncodesSection form bytes next.0 × (input ≡ bytes ++ next.2)
  unfolding next_section
  next_found last input next e =
      let b = and_then_some (first_section form input) (with_last last) next e in
      let m = map_some (λ (id : ℕ). (b.0.0, id, b.0.1)) (last_after last b.0.0) next b.2 in
      let f = (section_is laws form).found input b.0.1 b.0.0 b.1 in
      subst (λ (n : Section × ℕ × List ℕ). (last_after last n.0 ≡ Some n.1) × (bytes : List ℕ) × EncodesSection form bytes n.0 × (input ≡ bytes ++ n.2)) m.2
      (m.1, f.0, f.1, f.2)

  next_only : (last id : ℕ) (bytes rest : List ℕ) (section : Section) → EncodesSection form bytes section
      → last_after last section ≡ Some id
      → next_section form last (bytes ++ rest) ≡ Some (section, id, rest)
  unfolding next_section
  next_only last id bytes rest section h e =
      ap (option_and_then (with_last last)) ((section_is laws form).only bytes rest section h)
      ∙ ap (option_map (λ (i : ℕ). (section, i, rest))) e

  -- the sections that are read are encoded in lawful order
  pub lawful_found : (most last : ℕ) (input : List ℕ) → Reads form last input (lawful_sections form most last input)
  unfolding lawful_sections
  lawful_found zero last input = record { bytes = []; each = refl; in_order = tt; split = refl }
  lawful_found (suc most) last input = go (λ id rest. lawful_found most id rest) (next_section form last input) refl
    where
      go : ((id : ℕ) (rest : List ℕ) → Reads form id rest (lawful_sections form most id rest))
          → (o : Option (Section × ℕ × List ℕ)) → next_section form last input ≡ o
          → Reads form last input (elim o [ None ↦ ([], input) | Some next ↦ with_section next.0 (lawful_sections form most next.1 next.2) ])
      go further None e = record { bytes = []; each = refl; in_order = tt; split = refl }
      go further (Some next) e =
          let n = next_found last input next e in
          let others = further next.1 next.2 in
          record {
            bytes = n.1 ++ others.bytes;
            each = (n.1, others.bytes, refl, n.2, others.each);
            in_order = behind_order last next.1 next.0 (lawful_sections form most next.1 next.2).0 n.0 others.in_order;
            split = n.3 ∙ ap (λ r. n.1 ++ r) others.split ∙ sym (append_assoc n.1 others.bytes (lawful_sections form most next.1 next.2).1);
          }

  step : (most last : ℕ) (bytes rest : List ℕ) (id : ℕ) (section : Section)
      → next_section form last bytes ≡ Some (section, id, rest)
      → lawful_sections form (suc most) last bytes ≡ with_section section (lawful_sections form most id rest)
  unfolding lawful_sections
  step most last bytes rest id section e =
      ap (λ (o : Option (Section × ℕ × List ℕ)). elim o as (λ x. List Section × List ℕ)
      [ None ↦ ([], bytes) | Some next ↦ with_section next.0 (lawful_sections form most next.1 next.2) ]) e

  nothing : (most last : ℕ) → lawful_sections form most last [] ≡ ([], [])
  unfolding lawful_sections next_section first_section
  nothing zero last = refl
  nothing (suc most) last = refl

  -- sections that are encoded in lawful order are read, all of them
  pub lawful_only : (most last : ℕ) (bytes : List ℕ) (sections : List Section)
      → Each (EncodesSection form) bytes sections → AreInOrder last sections
      → length sections ≤ most → lawful_sections form most last bytes ≡ (sections, [])
  lawful_only most last bytes [] h order few = ap (lawful_sections form most last) h ∙ nothing most last
  lawful_only zero last bytes (section ∷ sections) h order few = absurd (omega arith)
  lawful_only (suc most) last bytes (section ∷ sections) h order few =
      let o = order_behind last section sections order in
      ap (lawful_sections form (suc most) last) h.2
      ∙ step most last (h.0 ++ h.1) h.1 o.0 section (next_only last o.0 h.0 h.1 section h.3 o.1)
      ∙ ap (with_section section) (lawful_only most o.0 h.1 sections h.4 o.2 (omega arith))

  -- the sections that are read are no shorter than any front that is encoded in lawful order
  pub lawful_longest : (most last : ℕ) (bytes rest : List ℕ) (sections : List Section)
      → Each (EncodesSection form) bytes sections → AreInOrder last sections
      → length sections ≤ most → length (lawful_sections form most last (bytes ++ rest)).1 ≤ length rest
  lawful_longest most last bytes rest [] h order few =
      let r = lawful_found most last rest in
      rw (h) (omega (arith, ap length r.split, length-append r.bytes (lawful_sections form most last rest).1))
  lawful_longest zero last bytes rest (section ∷ sections) h order few = absurd (omega arith)
  lawful_longest (suc most) last bytes rest (section ∷ sections) h order few =
      let o = order_behind last section sections order in
      let same : lawful_sections form (suc most) last (bytes ++ rest) ≡ with_section section (lawful_sections form most o.0 (h.1 ++ rest)) =
      ap (λ bs. lawful_sections form (suc most) last (bs ++ rest)) h.2
      ∙ ap (lawful_sections form (suc most) last) (append_assoc h.0 h.1 rest)
      ∙ step most last (h.0 ++ (h.1 ++ rest)) (h.1 ++ rest) o.0 section (next_only last o.0 h.0 (h.1 ++ rest) section h.3 o.1) in
      subst (λ (r : List Section × List ℕ). length r.1 ≤ length rest) (sym same) (lawful_longest most o.0 h.1 rest sections h.4 o.2 (omega arith))
