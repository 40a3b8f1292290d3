-- What depends only on the names of an import is the same for each import of those names.
use Rattle.std.proofs.Common.{◌≡◌, ℕ, suc, ◌+◌, ◌-◌, ◌≤◌, List, [], ◌∷◌, map, take, drop, Option, Some, None, option_map, option_and_then, option_copied, IfSome, slice_get, Bor, Bool, true, false, cond, sym, ap, ap₂, refl, subst, ◌∙◌, arith}
use Rattle.std.proofs.lemmas.List.{map-append, take-append-drop}
use Rattle.std.proofs.lemmas.Option.{slice_get-map, slice_get_within}
use Rattle.base.proofs.Lists.{get_front}
use Rattle.wasm_syntax.specs.declared.modules.Import.{Import}
use Rattle.module_names.specs.Names.{is_named, first_named}
use Rattle.module_names.proofs.ImportLoops.{seen, same_names}

-- the first import of two names has them
first_has_names : (from name : List ℕ) (place : ℕ) (xs : List Import) (p : ℕ) → first_named from name place xs ≡ Some p
    → (place ≤ p) × ((x : Import) → slice_get xs (p - place) ≡ Some x → is_named from name x ≡ true)
first_has_names from name place [] p h = cc
first_has_names from name place (y ∷ ys) p h = by (is_named from name y) refl (first_has_names from name (place + 1) ys p) h
  where
    by : (b : Bool) → is_named from name y ≡ b
        → (first_named from name (place + 1) ys ≡ Some p
        → (place + 1 ≤ p) × ((x : Import) → slice_get ys (p - (place + 1)) ≡ Some x → is_named from name x ≡ true))
        → cond b (Some place) (first_named from name (place + 1) ys) ≡ Some p
        → (place ≤ p) × ((x : Import) → slice_get (y ∷ ys) (p - place) ≡ Some x → is_named from name x ≡ true)
    by true named rest h =
        let e : place ≡ p = cc in
        let here : p - place ≡ 0 = omega arith in (
          omega arith,
          λ x there.
              let one : Some y ≡ Some x = rw here at there in
              let same : y ≡ x = cc in
              subst (λ z. is_named from name z ≡ true) same named,
        )
    by false named rest h =
        let later = rest h in
        let le : place + 1 ≤ p = later.0 in
        let next : p - place ≡ suc (p - (place + 1)) = omega arith in
        (omega arith, λ x there. later.1 x (rw next at there))

-- an import that was seen, among all
seen_among : (imports : List (Bor Import)) (i p : ℕ) (x : Import) → slice_get (seen imports i) p ≡ Some x
    → slice_get (map (λ import. import.now) imports) p ≡ Some x
seen_among imports i p x there =
    ap (λ l. slice_get (map (λ (import : Bor Import). import.now) l) p) (sym (take-append-drop i imports))
    ∙ ap (λ l. slice_get l p) (map-append (λ (import : Bor Import). import.now) (take i imports) (drop i imports))
    ∙ get_front (seen imports i) (map (λ import. import.now) (drop i imports)) p (slice_get_within (seen imports i) p x there) ∙ there

module _ {V : Type 0} (value : (from name : List ℕ) → V) where
  abbrev pub value_of_import : Import → V
  value_of_import import = value import.«module» import.name

  -- what was found for the first import of the names
  pub found_before : (imports : List (Bor Import)) (i : ℕ) (x : Import) (values : List V) (place : Option ℕ) (found : Option (Bor V))
      → place ≡ first_named x.«module» x.name 0 (map (λ import. import.now) imports)
      → values ≡ map value_of_import (seen imports i)
      → option_copied found ≡ option_and_then (slice_get values) place
      → IfSome found (λ v. v.now ≡ value_of_import x)
  found_before imports i x values place None first so_far h = tt
  found_before imports i x values None (Some v) first so_far h = cc
  found_before imports i x values (Some p) (Some v) first so_far h =
      by (slice_get (seen imports i) p) refl (sym (slice_get-map value_of_import (seen imports i) p) ∙ ap (λ l. slice_get l p) (sym so_far) ∙ sym h)
    where
      by : (o : Option Import) → slice_get (seen imports i) p ≡ o → option_map value_of_import o ≡ Some v.now
          → v.now ≡ value_of_import x
      by None there e = cc
      by (Some y) there e =
          let whole : slice_get (map (λ import. import.now) imports) (p - 0) ≡ Some y =
          let z : p - 0 ≡ p = omega arith in rw z (seen_among imports i p y there) in
          let n = same_names x.«module» x.name y ((first_has_names x.«module» x.name 0 (map (λ import. import.now) imports) p (sym first)).1 y whole) in
          let same : value_of_import y ≡ v.now = cc in
          sym same ∙ ap₂ value n.0 n.1
