-- The places that effects change: effects in order change distinct places.
use Rattle.std.proofs.Common.{◌≡◌, ℕ, suc, ◌+◌, ◌≤◌, ◌<◌, ◌⊎◌, inl, inr, ⊎_elim, List, [], ◌∷◌, length, true, refl, sym, ap, ◌∙◌, arith}
use Rattle.std.specs.Prelude.{flat_map, sum_by}
use Rattle.std.proofs.lemmas.Bool.Decides.{nat_tests}
use Rattle.std.proofs.lemmas.List.{length-append}
use Rattle.std.proofs.lemmas.List.Sums.{sum_by-cons}
use Rattle.base.proofs.Booleans.{and_parts}
use Rattle.trace_model.specs.declared.tapes.Effect.{Effect}
use Rattle.trace_model.specs.declared.tapes.Effect.TheVariants.{Grow, Table, Bytes, Entry, Global}
use Rattle.trace_model.specs.Effects.{is_before, are_ordered_after, are_ordered}
use Rattle.trace_model.specs.Weight.{effect_weight}
use Rattle.log_tape_laws.proofs.Among.{Among, AreApart, AreInOrder, all_among, all_weaker, order_cases, joined_apart, flat_owner}

-- ---- places: the kind of what is changed, and its address or index

abbrev pub run_places : (at : ℕ) → List ℕ → List (ℕ × ℕ)
run_places at [] = []
run_places at (byte ∷ bytes) = (2, at) ∷ run_places (suc at) bytes

abbrev pub effect_places : Effect → List (ℕ × ℕ)
effect_places (Grow pages) = (0, 0) ∷ []
effect_places (Table size) = (1, 0) ∷ []
effect_places (Bytes addr bytes) = run_places addr bytes
effect_places (Entry index func) = (3, index) ∷ []
effect_places (Global global value) = (4, global) ∷ []

-- the kind of an effect, its first place, and a place that is not before its last
abbrev pub kind_of : Effect → ℕ
kind_of (Grow pages) = 0
kind_of (Table size) = 1
kind_of (Bytes addr bytes) = 2
kind_of (Entry index func) = 3
kind_of (Global global value) = 4

abbrev pub from_of : Effect → ℕ
from_of (Grow pages) = 0
from_of (Table size) = 0
from_of (Bytes addr bytes) = addr
from_of (Entry index func) = index
from_of (Global global value) = global

abbrev pub end_of : Effect → ℕ
end_of (Bytes addr bytes) = addr + length bytes
end_of effect = from_of effect

abbrev pub Precedes : Effect → Effect → Type 0
Precedes e f = (kind_of e < kind_of f) ⊎ ((kind_of e ≡ kind_of f) × (end_of e < from_of f))

-- ---- the places of one effect

pub in_run : (at : ℕ) (bytes : List ℕ) (p : ℕ × ℕ) → Among (run_places at bytes) p
    → (p.0 ≡ 2) × (at ≤ p.1) × (p.1 < at + length bytes)
in_run at [] p there = absurd there
in_run at (byte ∷ bytes) p (inl here) =
    let k : 2 ≡ p.0 = ap (λ q. q.0) here in
    let a : at ≡ p.1 = ap (λ q. q.1) here in
    (sym k, omega (arith, a), omega (arith, a))
in_run at (byte ∷ bytes) p (inr later) =
    let rest = in_run (suc at) bytes p later in
    (rest.0, omega (arith, rest.1), omega (arith, rest.2))

-- a number is the start, or after it
pub start_cases : (start n : ℕ) → start ≤ n → (start ≡ n) ⊎ (start < n)
start_cases start n h = grind arith

pub run_there : (at q : ℕ) (bytes : List ℕ) → at ≤ q → q < at + length bytes → Among (run_places at bytes) (2, q)
run_there at q [] low high = absurd (omega (arith, low, high))
run_there at q (byte ∷ bytes) low high =
    ⊎_elim (λ same. inl (ap (λ n. (2, n)) same))
    (λ less. inr (run_there (suc at) q bytes (omega (arith, less)) (omega (arith, high))))
    (start_cases at q low)

run_apart : (at : ℕ) (bytes : List ℕ) → AreApart (run_places at bytes)
run_apart at [] = tt
run_apart at (byte ∷ bytes) = (
  λ there. let later = in_run (suc at) bytes (2, at) there in absurd (omega (arith, later.1)),
  run_apart (suc at) bytes,
)

effect_apart : (e : Effect) → AreApart (effect_places e)
effect_apart (Grow pages) = (λ there. there, tt)
effect_apart (Table size) = (λ there. there, tt)
effect_apart (Bytes addr bytes) = run_apart addr bytes
effect_apart (Entry index func) = (λ there. there, tt)
effect_apart (Global global value) = (λ there. there, tt)

abbrev IsOf : Effect → ℕ × ℕ → Type 0
IsOf e p = (p.0 ≡ kind_of e) × (from_of e ≤ p.1) × (p.1 ≤ end_of e)

one_place : (kind at : ℕ) (p : ℕ × ℕ) → Among ((kind, at) ∷ []) p → (p.0 ≡ kind) × (at ≤ p.1) × (p.1 ≤ at)
one_place kind at p (inl here) =
    let k : kind ≡ p.0 = ap (λ q. q.0) here in
    let a : at ≡ p.1 = ap (λ q. q.1) here in
    (sym k, omega (arith, a), omega (arith, a))
one_place kind at p (inr later) = absurd later

place_of : (e : Effect) (p : ℕ × ℕ) → Among (effect_places e) p → IsOf e p
place_of (Grow pages) p there = one_place 0 0 p there
place_of (Table size) p there = one_place 1 0 p there
place_of (Bytes addr bytes) p there = let in_it = in_run addr bytes p there in (in_it.0, in_it.1, omega (arith, in_it.2))
place_of (Entry index func) p there = one_place 3 index p there
place_of (Global global value) p there = one_place 4 global p there

-- an effect before another has no place with it
apart_kinds : (k j a b p q : ℕ) → (k < j) ⊎ ((k ≡ j) × (a < b)) → p ≡ k → p ≡ j → q ≤ a → b ≤ q → ⊥
apart_kinds k j a b p q (inl less) first second low high = omega (arith, less, first, second)
apart_kinds k j a b p q (inr same) first second low high = omega (arith, same.1, low, high)

pub clash : (e f : Effect) (p : ℕ × ℕ) → Precedes e f → Among (effect_places e) p → Among (effect_places f) p → ⊥
clash e f p before a b =
    let first = place_of e p a in
    let second = place_of f p b in
    apart_kinds (kind_of e) (kind_of f) (end_of e) (from_of f) p.0 p.1 before first.0 second.0 first.2 second.1

-- ---- effects in order

before_of : (e f : Effect) → is_before e f ≡ true → Precedes e f
before_of (Grow a) (Grow b) h = cc
before_of (Grow a) (Table b) h = inl (omega arith)
before_of (Grow a) (Bytes b c) h = inl (omega arith)
before_of (Grow a) (Entry b c) h = inl (omega arith)
before_of (Grow a) (Global b c) h = inl (omega arith)
before_of (Table a) (Grow b) h = cc
before_of (Table a) (Table b) h = cc
before_of (Table a) (Bytes b c) h = inl (omega arith)
before_of (Table a) (Entry b c) h = inl (omega arith)
before_of (Table a) (Global b c) h = inl (omega arith)
before_of (Bytes a d) (Grow b) h = cc
before_of (Bytes a d) (Table b) h = cc
before_of (Bytes a d) (Bytes b c) h = let less : a + length d < b = grind (arith, nat_tests, h) in inr (refl, less)
before_of (Bytes a d) (Entry b c) h = inl (omega arith)
before_of (Bytes a d) (Global b c) h = inl (omega arith)
before_of (Entry a d) (Grow b) h = cc
before_of (Entry a d) (Table b) h = cc
before_of (Entry a d) (Bytes b c) h = cc
before_of (Entry a d) (Entry b c) h = let less : a < b = grind (arith, nat_tests, h) in inr (refl, less)
before_of (Entry a d) (Global b c) h = inl (omega arith)
before_of (Global a d) (Grow b) h = cc
before_of (Global a d) (Table b) h = cc
before_of (Global a d) (Bytes b c) h = cc
before_of (Global a d) (Entry b c) h = cc
before_of (Global a d) (Global b c) h = let less : a < b = grind (arith, nat_tests, h) in inr (refl, less)

rises : (e : Effect) → from_of e ≤ end_of e
rises (Grow a) = omega arith
rises (Table a) = omega arith
rises (Bytes a b) = omega arith
rises (Entry a b) = omega arith
rises (Global a b) = omega arith

through : (i j k a b c d : ℕ) → (i < j) ⊎ ((i ≡ j) × (a < b)) → b ≤ c → (j < k) ⊎ ((j ≡ k) × (c < d))
    → (i < k) ⊎ ((i ≡ k) × (a < d))
through i j k a b c d (inl x) le (inl y) = inl (omega (arith, x, y))
through i j k a b c d (inl x) le (inr y) = inl (omega (arith, x, y.0))
through i j k a b c d (inr x) le (inl y) = inl (omega (arith, x.0, y))
through i j k a b c d (inr x) le (inr y) = inr (x.0 ∙ y.0, omega (arith, x.1, y.1, le))

precedes_through : (e f g : Effect) → Precedes e f → Precedes f g → Precedes e g
precedes_through e f g x y =
    through (kind_of e) (kind_of f) (kind_of g) (end_of e) (from_of f) (end_of f) (from_of g) x (rises f) y

ordered_after : (e : Effect) (es : List Effect) → are_ordered_after e es ≡ true → AreInOrder Precedes (e ∷ es)
ordered_after e [] h = (tt, tt)
ordered_after e (f ∷ fs) h =
    let p = and_parts (is_before e f) (are_ordered_after f fs) h in
    let here = before_of e f p.0 in
    let rest = ordered_after f fs p.1 in
    ((here, all_weaker (Precedes f) (Precedes e) (λ g next. precedes_through e f g here next) fs rest.0), rest)

pub in_order : (es : List Effect) → are_ordered es ≡ true → AreInOrder Precedes es
in_order [] h = tt
in_order (e ∷ es) h = ordered_after e es h

-- a place is changed by one effect
pub one_owner : (es : List Effect) (e f : Effect) (p : ℕ × ℕ) → AreInOrder Precedes es → Among es e → Among es f
    → Among (effect_places e) p → Among (effect_places f) p → e ≡ f
one_owner es e f p order a b own other =
    ⊎_elim (λ same. same)
    (λ apart. absurd (⊎_elim (λ x. clash e f p x own other) (λ y. clash f e p y other own) apart))
    (order_cases Precedes es e f order a b)

pub places_apart : (es : List Effect) → AreInOrder Precedes es → AreApart (flat_map effect_places es)
places_apart [] order = tt
places_apart (e ∷ es) order =
    joined_apart (effect_places e) (flat_map effect_places es) (effect_apart e) (places_apart es order.1)
    (λ p a b. let owner = flat_owner effect_places es p b in
    clash e owner.0 p (all_among (Precedes e) es owner.0 order.0 owner.1) a owner.2)

-- ---- an effect changes as many places as it weighs

run_length : (at : ℕ) (bytes : List ℕ) → length (run_places at bytes) ≡ length bytes
run_length at [] = refl
run_length at (byte ∷ bytes) = ap suc (run_length (suc at) bytes)

place_count : (e : Effect) → length (effect_places e) ≡ effect_weight e
place_count (Grow pages) = refl
place_count (Table size) = refl
place_count (Bytes addr bytes) = run_length addr bytes
place_count (Entry index func) = refl
place_count (Global global value) = refl

pub places_count : (es : List Effect) → length (flat_map effect_places es) ≡ sum_by effect_weight es
places_count [] = refl
places_count (e ∷ es) =
    omega (
      arith,
      length-append (effect_places e) (flat_map effect_places es),
      place_count e,
      places_count es,
      sum_by-cons effect_weight e es,
    )
