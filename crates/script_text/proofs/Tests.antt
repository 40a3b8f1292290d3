-- Tests that were passed, and what lists contain.
use Rattle.std.proofs.Common.{◌≡◌, List, [], ◌∷◌, filter, filter_map, Contains, Option, Some, None, Bool, true, false, ◌&&◌, cond, refl, ap, ◌∙◌}
use Rattle.std.specs.List.{list_all, cons_option}
use Rattle.std.proofs.lemmas.List.Elements.{All-contains}
use Rattle.std.proofs.lemmas.List.Sums.{AllPass-from_list_all}

-- `a` passes each test that all items of a list pass
abbrev pub Among : {A : Type 0} → A → List A → Type 0
Among {A} a xs = (test : A → Bool) → list_all test xs ≡ true → test a ≡ true

pub contained : {A : Type 0} (a : A) (xs : List A) → Contains xs a → Among a xs
contained a xs there test all = All-contains (λ x. test x ≡ true) xs a (AllPass-from_list_all test xs all) there

abbrev all_kept : {A : Type 0} (keep test : A → Bool) (xs : List A)
    → list_all (λ x. cond (keep x) (test x) true) xs ≡ list_all test (filter keep xs)
all_kept keep test [] = refl
all_kept keep test (x ∷ xs) = by (keep x) (all_kept keep test xs)
  where
    by : (b : Bool) → list_all (λ x. cond (keep x) (test x) true) xs ≡ list_all test (filter keep xs)
        → (cond b (test x) true && list_all (λ x. cond (keep x) (test x) true) xs) ≡ list_all test (cond b (x ∷ filter keep xs) (filter keep xs))
    by true h = ap (λ b. test x && b) h
    by false h = h

pub among_kept : {A : Type 0} (keep : A → Bool) (a : A) (xs : List A) → keep a ≡ true → Among a xs
    → Among a (filter keep xs)
among_kept keep a xs is among test all =
    let h : cond (keep a) (test a) true ≡ true = among (λ x. cond (keep x) (test x) true) (all_kept keep test xs ∙ all) in
    rw is at h

-- a test of what is found
abbrev on_found : {B : Type 0} → (B → Bool) → Option B → Bool
on_found test None = true
on_found test (Some b) = test b

all_found : {A B : Type 0} (find : A → Option B) (test : B → Bool) (xs : List A)
    → list_all (λ x. on_found test (find x)) xs ≡ list_all test (filter_map find xs)
all_found find test [] = refl
all_found {A} {B} find test (x ∷ xs) = by (find x) (all_found find test xs)
  where
    by : (o : Option B) → list_all (λ x. on_found test (find x)) xs ≡ list_all test (filter_map find xs)
        → (on_found test o && list_all (λ x. on_found test (find x)) xs) ≡ list_all test (cons_option o (filter_map find xs))
    by None h = h
    by (Some b) h = ap (λ c. test b && c) h

pub among_found : {A B : Type 0} (find : A → Option B) (a : A) (b : B) (xs : List A) → find a ≡ Some b → Among a xs
    → Among b (filter_map find xs)
among_found find a b xs is among test all =
    let h : on_found test (find a) ≡ true = among (λ x. on_found test (find x)) (all_found find test xs ∙ all) in
    rw is at h
