-- The calls of imports that are open at a place have begun before it, and are different from each other and from the
-- calls that are closed there.
use Rattle.std.proofs.Common.{◌≡◌, ◌≢◌, ℕ, ◌<◌, ◌≤◌, List, [], ◌∷◌, length, map, Bool, true, false, cond, refl, sym, ap, ◌∙◌, subst, arith}
use Rattle.std.specs.Prelude.{drop, filter, nat_eq, zip}
use Rattle.std.specs.List.{AllByRecursion}
use Rattle.std.proofs.lemmas.Bool.Decides.{nat_tests}
use Rattle.base.proofs.Booleans.{and_parts}
use Rattle.plan_laws.specs.Owners.{Owner, Beginning, CallOf, same_owner, innermost_owner, share_of}

-- ---- owners that are the same, and different ones

same_self : (owner : Owner) → same_owner owner owner ≡ true
same_self Beginning = refl
same_self (CallOf import number) = grind (arith, nat_tests)

same_is : (owner other : Owner) → same_owner owner other ≡ true → owner ≡ other
same_is Beginning Beginning h = refl
same_is Beginning (CallOf import number) h = absurd (cc h)
same_is (CallOf import number) Beginning h = absurd (cc h)
same_is (CallOf import number) (CallOf other place) h =
    let tests = and_parts (nat_eq import other) (nat_eq number place) h in
    let first = tests.0 in
    let second = tests.1 in
    let imports : import ≡ other = grind (arith, nat_tests, first) in
    let numbers : number ≡ place = grind (arith, nat_tests, second) in
    ap (λ i. CallOf i number) imports ∙ ap (λ n. CallOf other n) numbers

different : (owner other : Owner) → owner ≢ other → same_owner owner other ≡ false
different owner other apart = by (same_owner owner other) refl
  where
    by : (b : Bool) → same_owner owner other ≡ b → b ≡ false
    by true e = absurd (apart (same_is owner other e))
    by false e = refl

-- ---- the share of an owner

-- its share of some things, with one more that is there if the test says so
abbrev pub share_if : {A : Type 0} → Bool → (owner top : Owner) → A → List Owner → List A → List A
share_if {A} b owner top thing owners things =
    map (λ (own : Owner × A). own.1)
    (cond b ((top, thing) ∷ filter (λ (own : Owner × A). same_owner owner own.0) (zip owners things))
    (filter (λ (own : Owner × A). same_owner owner own.0) (zip owners things)))

pub share_own : {A : Type 0} (top : Owner) (thing : A) (owners : List Owner) (things : List A)
    → share_of top (top ∷ owners) (thing ∷ things) ≡ thing ∷ share_of top owners things
share_own top thing owners things = ap (λ b. share_if b top top thing owners things) (same_self top)

pub share_other : {A : Type 0} (owner top : Owner) (thing : A) (owners : List Owner) (things : List A) → owner ≢ top
    → share_of owner (top ∷ owners) (thing ∷ things) ≡ share_of owner owners things
share_other owner top thing owners things apart =
    ap (λ b. share_if b owner top thing owners things) (different owner top apart)

-- ---- how many calls have begun

pub count_grows : {A : Type 0} (b : Bool) (thing : A) (things : List A) → length things ≤ length (cond b (thing ∷ things) things)
count_grows true thing things = omega arith
count_grows false thing things = omega arith

pub count_more : {A : Type 0} (b : Bool) (thing : A) (things : List A) → b ≡ true
    → length things < length (cond b (thing ∷ things) things)
count_more true thing things e = omega arith
count_more false thing things e = absurd (cc e)

-- ---- calls that have begun

-- the owner is a call that is among those that have begun, given how many of each import have
abbrev pub HasBegun : (ℕ → ℕ) → Owner → Type 0
HasBegun counts Beginning = ⊥
HasBegun counts (CallOf import number) = number < counts import

-- the call has begun and is not open any more
abbrev pub IsOver : (ℕ → ℕ) → List Owner → Owner → Type 0
IsOver counts opened owner = HasBegun counts owner × AllByRecursion (λ other. owner ≢ other) opened

-- calls are open: each has begun, and is none of those around it
abbrev pub AreOpen : (ℕ → ℕ) → List Owner → Type 0
AreOpen counts [] = Unit {0}
AreOpen counts (owner ∷ around) = IsOver counts around owner × AreOpen counts around

-- a call that begins later is none that has begun
begins_later : (counts : ℕ → ℕ) (import number : ℕ) (owner : Owner) → HasBegun counts owner → counts import ≤ number
    → CallOf import number ≢ owner
begins_later counts import number owner begun from = λ same.
    let own : number < counts import = subst (HasBegun counts) (sym same) begun in omega (arith, own, from)

pub none_beginning : (counts : ℕ → ℕ) (owner : Owner) → HasBegun counts owner → owner ≢ Beginning
none_beginning counts owner begun = λ same. subst (HasBegun counts) same begun

pub apart_from_innermost : (counts : ℕ → ℕ) (opened : List Owner) (owner : Owner) → IsOver counts opened owner
    → owner ≢ innermost_owner opened
apart_from_innermost counts [] owner over = none_beginning counts owner over.0
apart_from_innermost counts (other ∷ around) owner over = over.1.0

pub later_apart : (counts : ℕ → ℕ) (opened : List Owner) (import number : ℕ) → AreOpen counts opened
    → counts import ≤ number → CallOf import number ≢ innermost_owner opened
later_apart counts [] import number are from = λ same. cc same
later_apart counts (owner ∷ around) import number are from = begins_later counts import number owner are.0.0 from

-- ---- a call begins

module _ (counts more : ℕ → ℕ) (grow : (import : ℕ) → counts import ≤ more import) where
  still_begun : (owner : Owner) → HasBegun counts owner → HasBegun more owner
  still_begun Beginning begun = begun
  still_begun (CallOf import number) begun = let m = grow import in omega (arith, begun, m)

  still_open : (opened : List Owner) → AreOpen counts opened → AreOpen more opened
  still_open [] are = tt
  still_open (owner ∷ around) are = ((still_begun owner are.0.0, are.0.1), still_open around are.1)

  module _ (import : ℕ) (begins : counts import < more import) where
    none_of : (opened : List Owner) → AreOpen counts opened
        → AllByRecursion (λ other. CallOf import (counts import) ≢ other) opened
    none_of [] are = tt
    none_of (owner ∷ around) are =
        (begins_later counts import (counts import) owner are.0.0 (omega arith), none_of around are.1)

    pub call_open : (opened : List Owner) → AreOpen counts opened
        → AreOpen more (CallOf import (counts import) ∷ opened)
    call_open opened are = ((begins, none_of opened are), still_open opened are)

    pub call_over : (opened : List Owner) (owner : Owner) → IsOver counts opened owner
        → IsOver more (CallOf import (counts import) ∷ opened) owner
    call_over opened owner over =
        let later = begins_later counts import (counts import) owner over.0 (omega arith) in
        (still_begun owner over.0, ((λ same. later (sym same)), over.1))

-- ---- a call ends

pub fewer_open : (counts : ℕ → ℕ) (opened : List Owner) → AreOpen counts opened → AreOpen counts (drop 1 opened)
fewer_open counts [] are = tt
fewer_open counts (owner ∷ around) are = are.1

pub fewer_over : (counts : ℕ → ℕ) (opened : List Owner) (owner : Owner) → IsOver counts opened owner
    → IsOver counts (drop 1 opened) owner
fewer_over counts [] owner over = over
fewer_over counts (other ∷ around) owner over = (over.0, over.1.1)
