-- Tests of lists, item by item, as loops do.
use Rattle.std.proofs.Common.{◌≡◌, ℕ, suc, ◌+◌, ◌<◌, ◌≤◌, List, [], ◌∷◌, map, length, drop, get_or, Bor, Bool, true, false, refl, ap}
use Rattle.std.specs.List.{list_all}
use Rattle.std.proofs.lemmas.List.{drop_all}
use Rattle.base.proofs.Booleans.{and_false}
use Rattle.wasm_syntax.specs.declared.values.ValType.{ValType}
use Rattle.wasm_syntax.specs.declared.values.Val.{Val}
use Rattle.wasm_syntax.specs.Alike.{same_type, same_types}
use Rattle.module_names.proofs.Lists.{front_or}

module _ {A : Type 0} (test : A → Bool) (xs : List (Bor A)) (i : ℕ) (d : Bor A) (lt : i < length xs) where
  pub all_fails : test (get_or xs i d).now ≡ false → list_all test (map (λ x. x.now) (drop i xs)) ≡ false
  all_fails h = rw (front_or xs i d lt, h) refl

  pub all_goes_on : test (get_or xs i d).now ≡ true
      → list_all test (map (λ x. x.now) (drop i xs)) ≡ list_all test (map (λ x. x.now) (drop (i + 1) xs))
  all_goes_on h = rw (front_or xs i d lt, h) refl

pub all_ends : {A : Type 0} (test : A → Bool) (xs : List (Bor A)) (i : ℕ) → length xs ≤ i
    → list_all test (map (λ x. x.now) (drop i xs)) ≡ true
all_ends test xs i le = rw (drop_all i xs le) refl

pub other_length : (xs ys : List ValType) → (length xs ≡ length ys → ⊥) → same_types xs ys ≡ false
other_length [] [] h = absurd (h refl)
other_length [] (b ∷ bs) h = refl
other_length (a ∷ rest) [] h = refl
other_length (a ∷ rest) (b ∷ bs) h = rw (other_length rest bs (λ e. h (ap suc e))) (and_false (same_type a b))

module _ (vs : List Val) (ts : List ValType) (i : ℕ) (v : Val) (t : ValType) (lt : i < length vs)
    (lt' : i < length ts) where
  pub same_fails : same_type (get_or vs i v).ty (get_or ts i t) ≡ false
      → same_types (map (λ x. x.ty) (drop i vs)) (drop i ts) ≡ false
  same_fails h = rw (front_or vs i v lt, front_or ts i t lt', h) refl

  pub same_goes_on : same_type (get_or vs i v).ty (get_or ts i t) ≡ true
      → same_types (map (λ x. x.ty) (drop i vs)) (drop i ts) ≡ same_types (map (λ x. x.ty) (drop (i + 1) vs))
      (drop (i + 1) ts)
  same_goes_on h = rw (front_or vs i v lt, front_or ts i t lt', h) refl

pub same_ends : (vs : List Val) (ts : List ValType) (i : ℕ) → length vs ≤ i → length ts ≤ i
    → same_types (map (λ x. x.ty) (drop i vs)) (drop i ts) ≡ true
same_ends vs ts i le le' = rw (drop_all i vs le, drop_all i ts le') refl
