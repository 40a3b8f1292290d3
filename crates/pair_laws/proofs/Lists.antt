-- Items of a list that pass a test, and items by their places.
use Rattle.std.proofs.Common.{◌≡◌, ℕ, zero, suc, ◌≤◌, List, [], ◌∷◌, length, filter, take, Some, Bool, true, false, cond, slice_get, refl, ap, ◌∙◌, arith}
use Rattle.std.specs.List.{All, AllByRecursion, slice_index_or}
use Rattle.std.proofs.lemmas.List.Elements.{All-head, All-tail}

-- a function of a choice is a choice between its values
pub of_choice : {X Y : Type 0} (f : X → Y) (b : Bool) (x y : X) → f (cond b x y) ≡ cond b (f x) (f y)
of_choice f true x y = refl
of_choice f false x y = refl

-- an item that passes is among those that pass, after as many as pass before it
pub passed_at : {X : Type 0} (test : X → Bool) (xs : List X) (y : ℕ) (x : X) → slice_get xs y ≡ Some x → test x ≡ true
    → slice_get (filter test xs) (length (filter test (take y xs))) ≡ Some x
passed_at test [] y x there passes = cc
passed_at test (first ∷ xs) zero x there passes =
    let same : first ≡ x = cc in
    let passed : test first ≡ true = ap test same ∙ passes in
    ap (λ b. slice_get (cond b (first ∷ filter test xs) (filter test xs)) 0) passed ∙ there
passed_at test (first ∷ xs) (suc y) x there passes = by (test first) (passed_at test xs y x there passes)
  where
    by : (b : Bool) → slice_get (filter test xs) (length (filter test (take y xs))) ≡ Some x
        → slice_get (cond b (first ∷ filter test xs) (filter test xs))
        (length (cond b (first ∷ filter test (take y xs)) (filter test (take y xs))))
        ≡ Some x
    by true later = later
    by false later = later

-- no more items pass than there are
pub filter_fewer : {X : Type 0} (test : X → Bool) (xs : List X) → length (filter test xs) ≤ length xs
filter_fewer test [] = omega arith
filter_fewer test (x ∷ xs) = by (test x) (filter_fewer test xs)
  where
    by : (b : Bool) → length (filter test xs) ≤ length xs
        → length (cond b (x ∷ filter test xs) (filter test xs)) ≤ suc (length xs)
    by true later = omega (arith, later)
    by false later = omega (arith, later)

-- the place in a list of an item that passes
pub record IsPlace {X : Type 0} (test : X → Bool) (xs : List X) (y : ℕ) (x : X) : Type 0 where
  pub place : ℕ
  pub there : slice_get xs place ≡ Some x
  pub before : length (filter test (take place xs)) ≡ y

-- an item among those that pass has a place in the list, and as many pass before it
pub place_of : {X : Type 0} (test : X → Bool) (xs : List X) (y : ℕ) (x : X) → slice_get (filter test xs) y ≡ Some x
    → IsPlace test xs y x
place_of test [] y x h = cc
place_of test (first ∷ xs) y x h = by (test first) refl y h (λ z h. place_of test xs z x h)
  where
    by : (b : Bool) → test first ≡ b → (y : ℕ)
        → slice_get (cond b (first ∷ filter test xs) (filter test xs)) y ≡ Some x
        → ((z : ℕ) → slice_get (filter test xs) z ≡ Some x → IsPlace test xs z x)
        → IsPlace test (first ∷ xs) y x
    by true e zero h later = record { place = 0; there = h; before = refl }
    by true e (suc y) h later =
        let own = later y h in
        let rest = filter test (take own.place xs) in
        record {
          place = suc own.place;
          there = own.there;
          before = ap (λ b. length (cond b (first ∷ rest) rest)) e ∙ ap suc own.before;
        }
    by false e y h later =
        let own = later y h in
        let rest = filter test (take own.place xs) in
        record {
          place = suc own.place;
          there = own.there;
          before = ap (λ b. length (cond b (first ∷ rest) rest)) e ∙ own.before;
        }

-- an item by its place
pub index_there : {X : Type 0} (xs : List X) (k : ℕ) (d x : X) → slice_get xs k ≡ Some x → slice_index_or xs k d ≡ x
index_there [] k d x h = cc
index_there (y ∷ xs) zero d x h = cc
index_there (y ∷ xs) (suc k) d x h = index_there xs k d x h

-- what holds of each item, one after another
pub one_by_one : {X : Type 0} (P Q : X → Type 0) → ((x : X) → P x → Q x) → (xs : List X) → All P xs → AllByRecursion Q xs
one_by_one P Q each [] h = tt
one_by_one P Q each (x ∷ xs) h = (each x (All-head P x xs h), one_by_one P Q each xs (All-tail P x xs h))

pub filtered_all : {X : Type 0} (P : X → Type 0) (test : X → Bool) (xs : List X) → AllByRecursion P xs
    → AllByRecursion P (filter test xs)
filtered_all P test [] all = tt
filtered_all P test (x ∷ xs) all = by (test x) (filtered_all P test xs all.1)
  where
    by : (b : Bool) → AllByRecursion P (filter test xs)
        → AllByRecursion P (cond b (x ∷ filter test xs) (filter test xs))
    by true later = (all.0, later)
    by false later = later
