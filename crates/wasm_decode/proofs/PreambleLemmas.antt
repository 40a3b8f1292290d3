-- The preamble, taken off the front.
use Rattle.std.proofs.Common.{◌≡◌, ℕ, List, [], ◌∷◌, length, take, drop, Some, None, true, false, cond, refl, sym, inl, inr, eq-eqb, ne_eqb}
use Rattle.std.specs.Prelude.{nat_eq}
use lib.Pointwise.{pointwise}
use Rattle.std.proofs.lemmas.Bool.{cases_eq}
use Rattle.wasm_syntax.specs.Encoding.Combinators.{first_exactly}

pub taken_off : (word bytes : List ℕ)
    → first_exactly word bytes
    ≡ cond (pointwise nat_eq (take (length word) bytes) word) (Some (tt, drop (length word) bytes)) None
taken_off [] bytes = refl
taken_off (b ∷ word) [] = refl
taken_off (b ∷ word) (c ∷ bytes) = elim (cases_eq b c) [
  | inl same ↦
      let there : nat_eq b c ≡ true = eq-eqb b c same in
      let back : nat_eq c b ≡ true = eq-eqb c b (sym same) in
      rw (there, back) (taken_off word bytes)
  | inr other ↦
      let there : nat_eq b c ≡ false = ne_eqb b c other in
      let back : nat_eq c b ≡ false = ne_eqb c b (λ (e : c ≡ b). other (sym e)) in
      rw (there, back) refl
]
