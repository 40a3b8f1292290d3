-- Items of lists, lists of distinct items, and lists whose items are in order.
use Rattle.std.proofs.Common.{◌≡◌, ◌≤◌, ◌⊎◌, inl, inr, ⊎_elim, List, [], ◌∷◌, ◌++◌, length, refl, sym, ap, ◌∙◌, subst, arith}
use Rattle.std.specs.Prelude.{flat_map}
use Rattle.std.specs.List.{AllByRecursion}
use Rattle.std.proofs.lemmas.List.{length-append}

abbrev pub Among : {X : Type 0} → List X → X → Type 0
Among [] x = ⊥
Among (y ∷ ys) x = (y ≡ x) ⊎ Among ys x

-- no item is equal to one after it
abbrev pub AreApart : {X : Type 0} → List X → Type 0
AreApart [] = Unit {0}
AreApart (x ∷ xs) = (Among xs x → ⊥) × AreApart xs

-- a relation holds of each item and each one after it
abbrev pub AreInOrder : {X : Type 0} → (X → X → Type 0) → List X → Type 0
AreInOrder R [] = Unit {0}
AreInOrder R (x ∷ xs) = AllByRecursion (R x) xs × AreInOrder R xs

-- ---- what holds of all items

pub all_among : {X : Type 0} (P : X → Type 0) (xs : List X) (x : X) → AllByRecursion P xs → Among xs x → P x
all_among P [] x all there = absurd there
all_among P (y ∷ ys) x all (inl here) = subst P here all.0
all_among P (y ∷ ys) x all (inr later) = all_among P ys x all.1 later

pub all_weaker : {X : Type 0} (P Q : X → Type 0) → ((x : X) → P x → Q x) → (xs : List X) → AllByRecursion P xs
    → AllByRecursion Q xs
all_weaker P Q each [] all = tt
all_weaker P Q each (x ∷ xs) all = (each x all.0, all_weaker P Q each xs all.1)

pub all_of_among : {X : Type 0} (P : X → Type 0) (xs : List X) → ((x : X) → Among xs x → P x) → AllByRecursion P xs
all_of_among P [] each = tt
all_of_among P (x ∷ xs) each = (each x (inl refl), all_of_among P xs (λ y later. each y (inr later)))

-- two items of a list in order are one item, or in one order or the other
pub order_cases : {X : Type 0} (R : X → X → Type 0) (xs : List X) (x y : X) → AreInOrder R xs → Among xs x → Among xs y
    → (x ≡ y) ⊎ (R x y ⊎ R y x)
order_cases R [] x y order a b = absurd a
order_cases R (z ∷ zs) x y order (inl a) (inl b) = inl (sym a ∙ b)
order_cases R (z ∷ zs) x y order (inl a) (inr b) =
    inr (inl (subst (λ w. R w y) a (all_among (R z) zs y order.0 b)))
order_cases R (z ∷ zs) x y order (inr a) (inl b) =
    inr (inr (subst (λ w. R w x) b (all_among (R z) zs x order.0 a)))
order_cases R (z ∷ zs) x y order (inr a) (inr b) = order_cases R zs x y order.1 a b

-- ---- joined lists

pub joined_left : {X : Type 0} (xs ys : List X) (x : X) → Among xs x → Among (xs ++ ys) x
joined_left [] ys x there = absurd there
joined_left (z ∷ zs) ys x (inl here) = inl here
joined_left (z ∷ zs) ys x (inr later) = inr (joined_left zs ys x later)

pub joined_right : {X : Type 0} (xs ys : List X) (x : X) → Among ys x → Among (xs ++ ys) x
joined_right [] ys x there = there
joined_right (z ∷ zs) ys x there = inr (joined_right zs ys x there)

pub joined_cases : {X : Type 0} (xs ys : List X) (x : X) → Among (xs ++ ys) x → Among xs x ⊎ Among ys x
joined_cases [] ys x there = inr there
joined_cases (z ∷ zs) ys x (inl here) = inl (inl here)
joined_cases (z ∷ zs) ys x (inr later) = ⊎_elim (λ a. inl (inr a)) (λ b. inr b) (joined_cases zs ys x later)

pub joined_apart : {X : Type 0} (xs ys : List X) → AreApart xs → AreApart ys
    → ((x : X) → Among xs x → Among ys x → ⊥) → AreApart (xs ++ ys)
joined_apart [] ys front back none = back
joined_apart (x ∷ xs) ys front back none = (
  λ there. ⊎_elim front.0 (none x (inl refl)) (joined_cases xs ys x there),
  joined_apart xs ys front.1 back (λ z a b. none z (inr a) b),
)

pub flat_among : {X A : Type 0} (f : X → List A) (xs : List X) (x : X) (a : A) → Among xs x → Among (f x) a
    → Among (flat_map f xs) a
flat_among f [] x a there own = absurd there
flat_among f (z ∷ zs) x a (inl here) own =
    joined_left (f z) (flat_map f zs) a (subst (λ w. Among (f w) a) (sym here) own)
flat_among f (z ∷ zs) x a (inr later) own = joined_right (f z) (flat_map f zs) a (flat_among f zs x a later own)

pub flat_owner : {X A : Type 0} (f : X → List A) (xs : List X) (a : A) → Among (flat_map f xs) a
    → (x : X) × Among xs x × Among (f x) a
flat_owner f [] a there = absurd there
flat_owner f (z ∷ zs) a there =
    ⊎_elim (λ own. (z, inl refl, own))
    (λ later. let rest = flat_owner f zs a later in (rest.0, inr rest.1, rest.2))
    (joined_cases (f z) (flat_map f zs) a there)

-- ---- numbers of items

parts_of : {X : Type 0} (ys : List X) (x : X) → Among ys x → (front : List X) × (back : List X) × (ys ≡ front ++ x ∷ back)
parts_of [] x there = absurd there
parts_of (y ∷ ys) x (inl here) = ([], ys, ap (λ z. z ∷ ys) here)
parts_of (y ∷ ys) x (inr later) = let p = parts_of ys x later in (y ∷ p.0, p.1, ap (λ l. y ∷ l) p.2)

others : {X : Type 0} (front back : List X) (x z : X) → (x ≡ z → ⊥) → Among (front ++ x ∷ back) z
    → Among (front ++ back) z
others front back x z apart there =
    ⊎_elim (λ a. joined_left front back z a)
    (λ b. ⊎_elim (λ same. absurd (apart same)) (λ c. joined_right front back z c) b)
    (joined_cases front (x ∷ back) z there)

-- distinct items that are all among others are no more than these
pub no_more : {X : Type 0} (xs ys : List X) → AreApart xs → ((x : X) → Among xs x → Among ys x) → length xs ≤ length ys
no_more [] ys apart all = omega arith
no_more (x ∷ xs) ys apart all =
    let parts = parts_of ys x (all x (inl refl)) in
    let rest : length xs ≤ length (parts.0 ++ parts.1) =
    no_more xs (parts.0 ++ parts.1) apart.1
    (λ z there. others parts.0 parts.1 x z (λ same. apart.0 (subst (Among xs) (sym same) there))
    (subst (λ l. Among l z) parts.2 (all z (inr there))))
    in
    omega (
      arith,
      rest,
      ap length parts.2,
      length-append parts.0 (x ∷ parts.1),
      length-append parts.0 parts.1,
    )
