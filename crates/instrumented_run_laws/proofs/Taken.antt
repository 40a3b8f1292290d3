-- The topmost values before an instruction that takes operands of given types.
use Rattle.std.proofs.Common.{◌≡◌, ℕ, List, [], ◌∷◌, length, Some, Bool, true, false, nat_le, refl, sym, ap, ◌∙◌, arith}
use Rattle.std.proofs.lemmas.Bool.Decides.{nat_tests}
use Rattle.std.proofs.lemmas.Option.{none-some, same_Some}
use Rattle.base.proofs.Booleans.{and_parts}
use Rattle.wasm_syntax.specs.declared.values.ValType.{ValType}
use Rattle.wasm_syntax.specs.declared.values.Val.{Val}
use Rattle.wasm_syntax.specs.Alike.{same_type, same_types}
use Rattle.wasm_syntax.proofs.ValTypes.{type_same}
use Rattle.history_spec.specs.Instruction.{Operands, pop, operands_if}
use Rattle.instrumented_run_laws.proofs.PieceSteps.{typed}

abbrev operands_at : List Val → List Val → Operands
operands_at operands rest = record { operands = operands; rest = rest }

-- operands whose types were tested
tested : (b : Bool) (found p : Operands) → operands_if b found ≡ Some p → (b ≡ true) × (found ≡ p)
tested true found p h = (refl, same_Some found p h)
tested false found p h = absurd (none-some p h)

retyped : (t : ValType) (v : Val) → same_type t v.ty ≡ true → v ≡ typed t v.bits
retyped t v h = ap (λ ty. typed ty v.bits) (sym (type_same t v.ty h))

-- one operand
pub record OneTaken (t : ValType) (values : List Val) (p : Operands) : Type 0 where
  pub a : ℕ
  pub values_are : values ≡ typed t a ∷ p.rest
  pub operands_are : p.operands ≡ typed t a ∷ []

pub one_taken : (t : ValType) (values : List Val) (p : Operands) → pop (t ∷ []) values ≡ Some p → OneTaken t values p
one_taken t [] p h = absurd (none-some p h)
one_taken t (v ∷ vs) p h =
    let enough : nat_le 1 (length (v ∷ vs)) ≡ true = grind (arith, nat_tests) in
    let found : Operands = operands_at (v ∷ []) vs in
    let tests : pop (t ∷ []) (v ∷ vs) ≡ operands_if (same_types (t ∷ []) (v.ty ∷ [])) found = rw enough refl in
    let q = tested (same_types (t ∷ []) (v.ty ∷ [])) found p (sym tests ∙ h) in
    let first = and_parts (same_type t v.ty) true q.0 in
    let is = retyped t v first.0 in
    record {
      a = v.bits;
      values_are = (λ i. is i ∷ (q.1 i).rest);
      operands_are = ap (λ (o : Operands). o.operands) (sym q.1) ∙ ap (λ w. w ∷ []) is;
    }

-- two operands
pub record TwoTaken (t u : ValType) (values : List Val) (p : Operands) : Type 0 where
  pub a : ℕ
  pub b : ℕ
  pub values_are : values ≡ typed u b ∷ typed t a ∷ p.rest
  pub operands_are : p.operands ≡ typed t a ∷ typed u b ∷ []

pub two_taken : (t u : ValType) (values : List Val) (p : Operands) → pop (t ∷ u ∷ []) values ≡ Some p
    → TwoTaken t u values p
two_taken t u [] p h = absurd (none-some p h)
two_taken t u (v ∷ []) p h = absurd (none-some p h)
two_taken t u (w ∷ v ∷ vs) p h =
    let enough : nat_le 2 (length (w ∷ v ∷ vs)) ≡ true = grind (arith, nat_tests) in
    let found : Operands = operands_at (v ∷ w ∷ []) vs in
    let tests : pop (t ∷ u ∷ []) (w ∷ v ∷ vs) ≡ operands_if (same_types (t ∷ u ∷ []) (v.ty ∷ w.ty ∷ [])) found =
    rw enough refl
    in
    let q = tested (same_types (t ∷ u ∷ []) (v.ty ∷ w.ty ∷ [])) found p (sym tests ∙ h) in
    let first = and_parts (same_type t v.ty) (same_types (u ∷ []) (w.ty ∷ [])) q.0 in
    let second = and_parts (same_type u w.ty) true first.1 in
    let is = retyped t v first.0 in
    let other = retyped u w second.0 in
    record {
      a = v.bits;
      b = w.bits;
      values_are = (λ i. other i ∷ is i ∷ (q.1 i).rest);
      operands_are = ap (λ (o : Operands). o.operands) (sym q.1) ∙ (λ i. is i ∷ other i ∷ []);
    }

-- three operands
pub record ThreeTaken (t u w : ValType) (values : List Val) (p : Operands) : Type 0 where
  pub a : ℕ
  pub b : ℕ
  pub c : ℕ
  pub values_are : values ≡ typed w c ∷ typed u b ∷ typed t a ∷ p.rest
  pub operands_are : p.operands ≡ typed t a ∷ typed u b ∷ typed w c ∷ []

pub three_taken : (t u w : ValType) (values : List Val) (p : Operands) → pop (t ∷ u ∷ w ∷ []) values ≡ Some p
    → ThreeTaken t u w values p
three_taken t u w [] p h = absurd (none-some p h)
three_taken t u w (x ∷ []) p h = absurd (none-some p h)
three_taken t u w (y ∷ x ∷ []) p h = absurd (none-some p h)
three_taken t u w (z ∷ y ∷ x ∷ vs) p h =
    let enough : nat_le 3 (length (z ∷ y ∷ x ∷ vs)) ≡ true = grind (arith, nat_tests) in
    let found : Operands = operands_at (x ∷ y ∷ z ∷ []) vs in
    let tests : pop (t ∷ u ∷ w ∷ []) (z ∷ y ∷ x ∷ vs)
    ≡ operands_if (same_types (t ∷ u ∷ w ∷ []) (x.ty ∷ y.ty ∷ z.ty ∷ [])) found =
    rw enough refl
    in
    let q = tested (same_types (t ∷ u ∷ w ∷ []) (x.ty ∷ y.ty ∷ z.ty ∷ [])) found p (sym tests ∙ h) in
    let first = and_parts (same_type t x.ty) (same_types (u ∷ w ∷ []) (y.ty ∷ z.ty ∷ [])) q.0 in
    let second = and_parts (same_type u y.ty) (same_types (w ∷ []) (z.ty ∷ [])) first.1 in
    let third = and_parts (same_type w z.ty) true second.1 in
    let is = retyped t x first.0 in
    let next = retyped u y second.0 in
    let last = retyped w z third.0 in
    record {
      a = x.bits;
      b = y.bits;
      c = z.bits;
      values_are = (λ i. last i ∷ next i ∷ is i ∷ (q.1 i).rest);
      operands_are = ap (λ (o : Operands). o.operands) (sym q.1) ∙ (λ i. is i ∷ next i ∷ last i ∷ []);
    }
