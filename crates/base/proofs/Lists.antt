-- Items of lists at a place, of lists joined, and tests and properties of all items.
use Rattle.std.proofs.Common.{◌≡◌, ℕ, suc, zero, ◌+◌, ◌-◌, ◌<◌, ◌≤◌, List, [], ◌∷◌, ◌++◌, length, Option, Some, None, Bool, true, is_some, get_or, slice_get, take, drop-cons, refl, sym, ap, ◌∙◌, subst, arith}
use Rattle.std.specs.Prelude.{drop, map, reverse, slice_set}
use Rattle.std.specs.List.{All, AllByRecursion, list_all, slice_index_or}
use Rattle.std.proofs.lemmas.List.{drop_all, reverse-append, set-append_left, set_split, take_all, take_more}
use Rattle.std.proofs.lemmas.Option.{get_or_from_slice_get, slice_get_within}
use Rattle.std.proofs.lemmas.List.Elements.{All-get_or, All-head, All-tail}
use Rattle.base.proofs.Booleans.{and_parts}

-- ---- an item at a place

pub item_there : {X : Type 0} (xs : List X) (i : ℕ) → i < length xs → (x : X) × (slice_get xs i ≡ Some x)
item_there [] i below = absurd (omega arith)
item_there (x ∷ xs) zero below = (x, refl)
item_there (x ∷ xs) (suc i) below = item_there xs i (omega arith)

-- the item at a number, and the items after it
pub first_item : {X : Type 0} (xs : List X) (n : ℕ) (x : X) (more : List X)
    → drop n xs ≡ x ∷ more → (slice_get xs n ≡ Some x) × (drop (n + 1) xs ≡ more)
first_item [] zero x more h = cc
first_item [] (suc n) x more h = cc
first_item (y ∷ ys) zero x more h = (cc, cc)
first_item (y ∷ ys) (suc n) x more h =
    let e : suc (n + 1) ≡ suc n + 1 = omega arith in
    let later = first_item ys n x more h in
    (later.0, subst (λ k. drop k (y ∷ ys) ≡ more) e later.1)

pub mapped_item : {X Y : Type 0} (f : X → Y) (xs : List X) (i : ℕ) (d : X)
    → slice_index_or (map f xs) i (f d) ≡ f (slice_index_or xs i d)
mapped_item f [] i d = refl
mapped_item f (x ∷ xs) zero d = refl
mapped_item f (x ∷ xs) (suc i) d = mapped_item f xs i d

pub first_there : {X : Type 0} (xs : List X) → 0 < length xs → is_some (slice_get xs 0) ≡ true
first_there [] there = absurd (omega (arith, there))
first_there (x ∷ xs) there = refl

-- the items from a place on, if the item there was read
pub drop_at_item : {X : Type 0} (xs : List X) (i : ℕ) (x : X) → i < length xs → x ≡ get_or xs i x
    → drop i xs ≡ x ∷ drop (i + 1) xs
drop_at_item xs i x within is =
    let next : suc i ≡ i + 1 = omega arith in
    drop-cons xs i x within ∙ ap (λ y. y ∷ drop (suc i) xs) (sym is) ∙ ap (λ n. x ∷ drop n xs) next

pub set_there : {X : Type 0} (xs : List X) (i : ℕ) (x : X) → i < length xs → slice_get (slice_set xs i x) i ≡ Some x
set_there [] i x below = absurd (omega (arith, below))
set_there (y ∷ xs) zero x below = refl
set_there (y ∷ xs) (suc i) x below = set_there xs i x (omega (arith, below))

-- ---- lists joined

pub get_front : {A : Type 0} (xs ys : List A) (i : ℕ) → i < length xs → slice_get (xs ++ ys) i ≡ slice_get xs i
get_front [] ys i below = absurd (omega arith)
get_front (x ∷ xs) ys zero below = refl
get_front (x ∷ xs) ys (suc i) below = get_front xs ys i (omega arith)

pub get_after : {A : Type 0} (xs ys : List A) (i : ℕ) → length xs ≤ i
    → slice_get (xs ++ ys) i ≡ slice_get ys (i - length xs)
get_after [] ys i past = let e : i - 0 ≡ i = omega arith in sym (ap (slice_get ys) e)
get_after (x ∷ xs) ys zero past = absurd (omega arith)
get_after (x ∷ xs) ys (suc i) past =
    let e : suc i - suc (length xs) ≡ i - length xs = omega arith in
    get_after xs ys i (omega arith) ∙ sym (ap (slice_get ys) e)

-- the item of the second of two joined lists, if the place is a sum
pub get_after_by : {A : Type 0} (xs ys : List A) (i j : ℕ) → i ≡ length xs + j → slice_get (xs ++ ys) i ≡ slice_get ys j
get_after_by [] ys i j e = let same : i ≡ j = omega (arith, e) in ap (slice_get ys) same
get_after_by (x ∷ xs) ys zero j e = absurd (omega (arith, e))
get_after_by (x ∷ xs) ys (suc i) j e = get_after_by xs ys i j (omega (arith, e))

pub nil_parts : {X : Type 0} (xs ys : List X) → xs ++ ys ≡ [] → (xs ≡ []) × (ys ≡ [])
nil_parts [] ys h = (refl, h)
nil_parts (x ∷ xs) ys h = cc

pub set_front : {X : Type 0} (xs ys : List X) (i : ℕ) (old x : X) → slice_get xs i ≡ Some old
    → slice_set (xs ++ ys) i x ≡ slice_set xs i x ++ ys
set_front xs ys i old x there = set-append_left xs ys i x (slice_get_within xs i old there)

-- ---- the last item, which is the first of the reverse

pub last_set : {X : Type 0} (xs : List X) (n : ℕ) (y : X) → n + 1 ≡ length xs
    → reverse (slice_set xs n y) ≡ y ∷ reverse (take n xs)
last_set xs n y is =
    ap reverse (set_split xs n y (omega arith))
    ∙ ap (λ rest. reverse (take n xs ++ y ∷ rest)) (drop_all (suc n) xs (omega arith))
    ∙ reverse-append (take n xs) (y ∷ [])

pub last_is : {X : Type 0} (xs : List X) (n : ℕ) (d : X) → n + 1 ≡ length xs
    → reverse xs ≡ slice_index_or xs n d ∷ reverse (take n xs)
last_is xs n d is =
    ap reverse (sym (take_all (n + 1) xs (omega arith)) ∙ take_more xs n d (omega arith))
    ∙ reverse-append (take n xs) (slice_index_or xs n d ∷ [])

-- ---- what holds of all items

pub all_at : {X : Type 0} (P : X → Type 0) (xs : List X) (i : ℕ) (x : X) → All P xs → slice_get xs i ≡ Some x → P x
all_at P xs i x all is =
    subst P (get_or_from_slice_get xs i x x is) (All-get_or P xs i x (slice_get_within xs i x is) all)

pub all_or : {X : Type 0} (P : X → Type 0) (xs : List X) (i : ℕ) (d : X) → All P (xs ++ d ∷ [])
    → P (slice_index_or xs i d)
all_or P [] i d all = All-head P d [] all
all_or P (x ∷ xs) zero d all = All-head P x (xs ++ d ∷ []) all
all_or P (x ∷ xs) (suc i) d all = all_or P xs i d (All-tail P x (xs ++ d ∷ []) all)

pub joined_all : {A : Type 0} (P : A → Type 0) (xs ys : List A) → AllByRecursion P xs → AllByRecursion P ys
    → AllByRecursion P (xs ++ ys)
joined_all P [] ys front back = back
joined_all P (x ∷ xs) ys front back = (front.0, joined_all P xs ys front.1 back)

-- an item of a list whose items pass a test
pub item_passes : {X : Type 0} (test : X → Bool) (xs : List X) (i : ℕ) (x : X) → list_all test xs ≡ true
    → slice_get xs i ≡ Some x → test x ≡ true
item_passes test [] i x all is = cc
item_passes test (y ∷ ys) zero x all is =
    let here : y ≡ x = cc in
    subst (λ z. test z ≡ true) here (and_parts (test y) (list_all test ys) all).0
item_passes test (y ∷ ys) (suc i) x all is = item_passes test ys i x (and_parts (test y) (list_all test ys) all).1 is
