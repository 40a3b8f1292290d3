-- The operands that an instruction takes, by their places from the top of the stack.
use Rattle.std.proofs.Common.{◌≡◌, ℕ, ◌+◌, ◌-◌, ◌<◌, ◌≤◌, List, [], ◌∷◌, length, take, drop, reverse, slice_get, Option, Some, None, Bool, true, false, nat_le, refl, sym, ap, ◌∙◌, arith, length-take-le, leb-true}
use Rattle.std.specs.Prelude.{slice_index_or, option_map, unwrap_or}
use Rattle.std.proofs.lemmas.Option.{none-some, same_Some, cond_some, slice_get-get_or}
use Rattle.std.proofs.lemmas.List.{length-reverse, get_or-reverse, take-append-drop}
use Rattle.base.proofs.Lists.{get_front}
use Rattle.wasm_syntax.specs.declared.values.Val.{Val}
use Rattle.wasm_syntax.specs.declared.values.ValType.{ValType}
use Rattle.wasm_syntax.specs.Alike.{same_types}
use Rattle.wasm_syntax.proofs.ValTypes.{types_same}
use Rattle.history_spec.specs.Configuration.{topmost}
use Rattle.history_spec.specs.Code.{types_of, i32_value}
use Rattle.history_spec.specs.Instruction.{pop, operands_as, operands_if, Operands, bits_at}
use Rattle.record_replay_spec.specs.Observations.{bits_from_top}

-- operands of these types, each at its place on the stack, counted from the top
pub record AreOperands (types : List ValType) (values operands : List Val) : Type 0 where
  pub typed : types_of operands ≡ types
  pub number : length operands ≡ length types
  pub at : (i j : ℕ) (d : Val) → i + j + 1 ≡ length types → slice_get values j ≡ Some (slice_index_or operands i d)

topmost_values : (count : ℕ) (values results : List Val) → topmost count values ≡ Some results
    → (count ≤ length values) × (results ≡ reverse (take count values))
topmost_values count values results h =
    let p = cond_some (nat_le count (length values)) (reverse (take count values)) results h in
    (leb-true count (length values) p.0, sym p.1)

pub topmost_length : (count : ℕ) (values results : List Val) → topmost count values ≡ Some results
    → length results ≡ count
topmost_length count values results h =
    let p = topmost_values count values results h in
    ap length p.1 ∙ length-reverse (take count values) ∙ length-take-le count values p.0

popped_of : (types : List ValType) (values : List Val) (o : Option (List Val)) (p : Operands)
    → operands_as types values o ≡ Some p → (o ≡ Some p.operands) × (types_of p.operands ≡ types)
popped_of types values None p h = absurd (none-some p h)
popped_of types values (Some operands) p h = go (same_types types (types_of operands)) refl h
  where
    here : Operands
    here = record { operands = operands; rest = drop (length types) values }

    go : (b : Bool) → same_types types (types_of operands) ≡ b → operands_if b here ≡ Some p
        → (Some operands ≡ Some p.operands) × (types_of p.operands ≡ types)
    go true e q =
        let one : here ≡ p = same_Some here p q in (
          ap (λ (x : Operands). Some x.operands) one,
          sym (types_same types (types_of operands) e ∙ ap (λ (x : Operands). types_of x.operands) one),
        )
    go false e q = absurd (none-some p q)

pub popped : (types : List ValType) (values : List Val) (p : Operands) → pop types values ≡ Some p
    → AreOperands types values p.operands
popped types values p h =
    record { typed = taken_as.1; number = topmost_length count values p.operands taken_as.0; at = at }
  where
    count : ℕ
    count = length types

    taken_as : (topmost count values ≡ Some p.operands) × (types_of p.operands ≡ types)
    taken_as = popped_of types values (topmost count values) p h

    there : (count ≤ length values) × (p.operands ≡ reverse (take count values))
    there = topmost_values count values p.operands taken_as.0

    taken : length (take count values) ≡ count
    taken = length-take-le count values there.0

    at : (i j : ℕ) (d : Val) → i + j + 1 ≡ count → slice_get values j ≡ Some (slice_index_or p.operands i d)
    at i j d sum =
        let inside : j < length (take count values) = omega (arith, taken, sum) in
        let first : i < length (take count values) = omega (arith, taken, sum) in
        let place : length (take count values) - 1 - i ≡ j = omega (arith, taken, sum) in
        ap (λ l. slice_get l j) (sym (take-append-drop count values))
        ∙ get_front (take count values) (drop count values) j inside
        ∙ slice_get-get_or (take count values) j d inside
        ∙ ap (λ k. Some (slice_index_or (take count values) k d)) (sym place)
        ∙ ap Some (sym (get_or-reverse (take count values) i d first))
        ∙ ap (λ l. Some (slice_index_or l i d)) (sym there.1)

pub bits_same : {types : List ValType} {values operands : List Val} → AreOperands types values operands
    → (i j : ℕ) → i + j + 1 ≡ length types → bits_at operands i ≡ bits_from_top values j
bits_same are i j sum =
    sym (ap (λ (o : Option Val). unwrap_or (option_map (λ value. value.bits) o) 0) (are.at i j (i32_value 0) sum))

-- the only operand has the wanted type
pub one_typed : (operands : List Val) (ty : ValType) (d : Val) → types_of operands ≡ ty ∷ []
    → (slice_index_or operands 0 d).ty ≡ ty
one_typed [] ty d e = cc
one_typed (value ∷ operands) ty d e = ap (λ types. slice_index_or types 0 ty) e
