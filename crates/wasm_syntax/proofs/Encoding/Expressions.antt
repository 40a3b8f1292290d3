-- What holds of the encodings of expressions, and of their reader.
use Rattle.std.proofs.Common.{◌≡◌, ℕ, zero, suc, ◌<◌, ◌≤◌, List, [], ◌∷◌, ◌++◌, length, Bool, true, false, Option, Some, None, refl, ap, sym, ◌∙◌, subst, append_assoc, arith}
use Rattle.std.specs.Prelude.{option_map, option_and_then}
use Rattle.std.proofs.lemmas.List.{length-append}
use Rattle.std.proofs.lemmas.Option.{none-some, some_pair_parts}
use Rattle.base.proofs.Options.{map_some, and_then_some}
use Rattle.leb_bytes.specs.Encoding.{IsReadBy}
use Rattle.wasm_syntax.specs.declared.forms.Form.{Form}
use Rattle.wasm_syntax.specs.declared.instructions.Instr.{Instr}
use Rattle.wasm_syntax.specs.Encoding.Grammar.{Grammar, Each}
use Rattle.wasm_syntax.specs.Encoding.Instructions.{EncodesInstr, EncodesExpr}
use Rattle.wasm_syntax.specs.Encoding.Combinators.{Reader}
use Rattle.wasm_syntax.specs.Encoding.Readers.{open_after, first_instr, first_instrs, first_expr}
use Rattle.wasm_syntax.proofs.Encoding.Numbers.{NumberLaws}
use Rattle.wasm_syntax.proofs.Encoding.Instructions.{instr_is}
use Rattle.wasm_syntax.proofs.Encoding.Nests.{closes, body_closes, closes_body}

-- what a reader that reads nothing of no bytes reads has bytes
pub some_bytes : {A : Type 0} (E : Grammar A) (read : Reader A) → IsReadBy E read → read [] ≡ None
    → (bytes : List ℕ) (x : A) → E bytes x → 0 < length bytes
some_bytes E read is none [] x h = absurd (none-some _ (sym none ∙ is.only [] [] x h))
some_bytes E read is none (b ∷ bytes) x h = omega arith

pub fewer_items : {A : Type 0} (E : Grammar A) → ((bytes : List ℕ) (x : A) → E bytes x → 0 < length bytes)
    → (bytes : List ℕ) (xs : List A) → Each E bytes xs → length xs ≤ length bytes
fewer_items E some bytes [] h = omega arith
fewer_items E some bytes (x ∷ xs) h =
    let rest = fewer_items E some h.1 xs h.4 in
    rw (h.2) (omega (arith, length-append h.0 h.1, some h.0 x h.3, rest))

closes_more : (i : Instr) (is : List Instr) (b : Bool) (blocks still : List Bool)
    → open_after i (b ∷ blocks) ≡ Some still
    → closes (b ∷ blocks) (i ∷ is) ≡ closes still is
closes_more i is b blocks still e =
    ap (λ (o : Option (List Bool)). elim o as (λ x. Bool) [ None ↦ false | Some left ↦ closes left is ]) e

closing : (o : Option (List Bool)) (is : List Instr)
    → elim o as (λ x. Bool) [ None ↦ false | Some left ↦ closes left is ] ≡ true
    → (still : List Bool) × (o ≡ Some still) × (closes still is ≡ true)
closing None is h = absurd cc
closing (Some still) is h = (still, refl, h)

module _ (laws : NumberLaws) (form : Form) where
  instr_bytes : (bytes : List ℕ) (i : Instr) → EncodesInstr form bytes i → 0 < length bytes
  unfolding first_instr
  instr_bytes = some_bytes (EncodesInstr form) (first_instr form) (instr_is laws form) refl

  instrs_found : (most : ℕ) (blocks : List Bool) (input rest : List ℕ) (is : List Instr)
      → first_instrs form most blocks input ≡ Some (is, rest)
      → (bytes : List ℕ) × Each (EncodesInstr form) bytes is × (closes blocks is ≡ true) × (input ≡ bytes ++ rest)
  unfolding first_instrs
  instrs_found most [] input rest is e =
      let parts = some_pair_parts [] is input rest e in
      ([], subst (λ js. Each (EncodesInstr form) [] js) parts.0 refl, ap (closes []) (sym parts.0), parts.1)
  instrs_found zero (b ∷ blocks) input rest is e = absurd (none-some _ e)
  instrs_found (suc most) (b ∷ blocks) input rest is e =
      let f = and_then_some (first_instr form input) (λ (first : Instr × List ℕ). option_and_then (λ still.
      option_map (λ (others : List Instr × List ℕ). (first.0 ∷ others.0, others.1)) (first_instrs form most still first.1))
      (open_after first.0 (b ∷ blocks))) (is, rest) e in
      let o = and_then_some (open_after f.0.0 (b ∷ blocks))
      (λ (still : List Bool). option_map (λ (others : List Instr × List ℕ). (f.0.0 ∷ others.0, others.1))
      (first_instrs form most still f.0.1)) (is, rest) f.2 in
      let m = map_some (λ (others : List Instr × List ℕ). (f.0.0 ∷ others.0, others.1)) (first_instrs form most o.0 f.0.1) (is, rest) o.2 in
      let parts = some_pair_parts (f.0.0 ∷ m.0.0) is m.0.1 rest (ap Some m.2) in
      let one = (instr_is laws form).found input f.0.1 f.0.0 f.1 in
      let others = instrs_found most o.0 f.0.1 m.0.1 m.0.0 m.1 in
      let all : Each (EncodesInstr form) (one.0 ++ others.0) (f.0.0 ∷ m.0.0) = (one.0, others.0, refl, one.1, others.1) in
      let split : input ≡ (one.0 ++ others.0) ++ m.0.1 = one.2 ∙ ap (λ r. one.0 ++ r) others.3 ∙ sym (append_assoc one.0 others.0 m.0.1) in (
        one.0 ++ others.0,
        subst (λ js. Each (EncodesInstr form) (one.0 ++ others.0) js) parts.0 all,
        ap (closes (b ∷ blocks)) (sym parts.0) ∙ closes_more f.0.0 m.0.0 b blocks o.0 o.1 ∙ others.2,
        split ∙ ap (λ r. (one.0 ++ others.0) ++ r) parts.1,
      )

  instrs_only : (most : ℕ) (blocks : List Bool) (bytes rest : List ℕ) (is : List Instr)
      → Each (EncodesInstr form) bytes is → closes blocks is ≡ true
      → length is ≤ most → first_instrs form most blocks (bytes ++ rest) ≡ Some (is, rest)
  unfolding first_instrs
  instrs_only most [] bytes rest [] h c few = ap (λ bs. Some ([], bs ++ rest)) h
  instrs_only most [] bytes rest (i ∷ is) h c few = absurd cc
  instrs_only most (b ∷ blocks) bytes rest [] h c few = absurd cc
  instrs_only zero (b ∷ blocks) bytes rest (i ∷ is) h c few = absurd (omega arith)
  instrs_only (suc most) (b ∷ blocks) bytes rest (i ∷ is) h c few =
      let still = closing (open_after i (b ∷ blocks)) is c in
      ap (λ bs. first_instrs form (suc most) (b ∷ blocks) (bs ++ rest)) h.2
      ∙ ap (first_instrs form (suc most) (b ∷ blocks)) (append_assoc h.0 h.1 rest)
      ∙ ap (option_and_then (λ (first : Instr × List ℕ). option_and_then (λ left.
      option_map (λ (others : List Instr × List ℕ). (first.0 ∷ others.0, others.1)) (first_instrs form most left first.1))
      (open_after first.0 (b ∷ blocks)))) ((instr_is laws form).only h.0 (h.1 ++ rest) i h.3)
      ∙ ap (option_and_then (λ (left : List Bool). option_map
      (λ (others : List Instr × List ℕ). (i ∷ others.0, others.1)) (first_instrs form most left (h.1 ++ rest)))) still.1
      ∙ ap (option_map (λ (others : List Instr × List ℕ). (i ∷ others.0, others.1))) (instrs_only most still.0 h.1 rest is h.4 still.2 (omega arith))

  pub expr_is : IsReadBy (EncodesExpr form) (first_expr form)
  unfolding first_expr
  expr_is = record {
    found = λ input rest body e.
        let f = instrs_found (length input) (false ∷ []) input rest body e in
        let t = closes_body body f.2 in
        (f.0, record { instructions = f.1; nest = t.0; is_body = t.1 }, f.3);
    only = λ bytes rest body h.
        instrs_only (length (bytes ++ rest)) (false ∷ []) bytes rest body h.instructions (body_closes h.nest body h.is_body)
        (omega (arith, length-append bytes rest, fewer_items (EncodesInstr form) instr_bytes bytes body h.instructions));
  }
