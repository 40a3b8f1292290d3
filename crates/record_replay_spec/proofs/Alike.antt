-- The tests of values, origins and ends of the host's activities pass for equals alone; equal values pass.
use Rattle.std.proofs.Common.{◌≡◌, ◌≢◌, List, [], ◌∷◌, Option, Some, None, Bool, true, false, nat_eq, refl, sym, ap, ◌∙◌}
use Rattle.std.proofs.lemmas.Bool.{eqb-true}
use Rattle.base.proofs.Booleans.{and_parts, and_true, own_number}
use Rattle.wasm_syntax.specs.declared.values.Val.{Val}
use Rattle.wasm_syntax.specs.Alike.{type_byte, same_type}
use Rattle.wasm_syntax.proofs.ValTypes.{type_same}
use Rattle.trace_model.specs.declared.tapes.Origin.{Origin}
use Rattle.trace_model.specs.declared.tapes.Origin.TheVariants.{Begin, Import, Back}
use Rattle.trace_model.specs.declared.tapes.Next.{Next}
use Rattle.trace_model.specs.declared.tapes.Next.TheVariants.{Call, Return, End, Trap}
use Rattle.record_replay_spec.specs.Alike.{same_option, same_value, same_list, same_values, same_origin, same_next}

pub option_same : {X : Type 0} (same : X → X → Bool) → ((x y : X) → same x y ≡ true → x ≡ y)
    → (a b : Option X) → same_option same a b ≡ true → a ≡ b
option_same same each None None h = refl
option_same same each None (Some b) h = cc
option_same same each (Some a) None h = cc
option_same same each (Some a) (Some b) h = ap Some (each a b h)

pub value_same : (a b : Val) → same_value a b ≡ true → a ≡ b
value_same a b h =
    let p = and_parts (same_type a.ty b.ty) (nat_eq a.bits b.bits) h in
    (λ i. record { ty = type_same a.ty b.ty p.0 i; bits = eqb-true a.bits b.bits p.1 i })

list_same : {X : Type 0} (same : X → X → Bool) → ((a b : X) → same a b ≡ true → a ≡ b)
    → (xs ys : List X) → same_list same xs ys ≡ true → xs ≡ ys
list_same same each [] [] h = refl
list_same same each [] (y ∷ ys) h = cc
list_same same each (x ∷ xs) [] h = cc
list_same same each (x ∷ xs) (y ∷ ys) h =
    let p = and_parts (same x y) (same_list same xs ys) h in
    (λ i. each x y p.0 i ∷ list_same same each xs ys p.1 i)

pub values_same : (a b : List Val) → same_values a b ≡ true → a ≡ b
values_same a b h = list_same same_value value_same a b h

pub origin_same : (a b : Origin) → same_origin a b ≡ true → a ≡ b
origin_same Begin Begin h = refl
origin_same (Import a) (Import b) h = ap Import (eqb-true a b h)
origin_same Back Back h = refl
origin_same a b h = cc

pub next_same : (a b : Next) → same_next a b ≡ true → a ≡ b
next_same (Call func args) (Call other given) h =
    let p = and_parts (nat_eq func other) (same_values args given) h in
    (λ i. Call (eqb-true func other p.0 i) (values_same args given p.1 i))
next_same (Return result) (Return other) h = ap Return (option_same same_value value_same result other h)
next_same End End h = refl
next_same Trap Trap h = refl
next_same a b h = cc

-- ---- equal values pass

pub own_option : {X : Type 0} (same : X → X → Bool) → ((a : X) → same a a ≡ true) → (o : Option X)
    → same_option same o o ≡ true
own_option same own None = refl
own_option same own (Some x) = own x

pub own_value : (v : Val) → same_value v v ≡ true
own_value v = and_true (same_type v.ty v.ty) (nat_eq v.bits v.bits) (own_number (type_byte v.ty)) (own_number v.bits)

-- a test of items that passes for equals, and for no others, decides whether options are equal
module _ {X : Type 0} (same : X → X → Bool) (sound : (x y : X) → same x y ≡ true → x ≡ y) (own : (x : X) → same x x ≡ true)
    (a b : Option X) where
  pub option_differs : a ≢ b → same_option same a b ≡ false
  option_differs apart = by_test (same_option same a b) refl
    where
      by_test : (t : Bool) → same_option same a b ≡ t → t ≡ false
      by_test true p = absurd (apart (option_same same sound a b p))
      by_test false p = refl

  pub option_agrees : (a ≢ b → ⊥) → same_option same a b ≡ true
  option_agrees agree = by_test (same_option same a b) refl
    where
      by_test : (t : Bool) → same_option same a b ≡ t → t ≡ true
      by_test true p = refl
      by_test false p =
          absurd (agree (λ e. let passes = ap (λ o. same_option same o b) e ∙ own_option same own b in
          let both : true ≡ false = sym passes ∙ p in cc))
