-- What each activation of the host has of the rest of a tape or of a run, before and after one more thing.
use Rattle.std.proofs.Common.{◌≡◌, ◌≢◌, ℕ, zero, suc, ◌+◌, ◌<◌, ◌≤◌, List, [], ◌∷◌, length, map, Bool, true, false, cond, refl, sym, ap, ◌∙◌, subst, arith}
use Rattle.std.specs.Prelude.{nat_eq, slice_set}
use Rattle.std.specs.List.{AllByRecursion, range_with_len, slice_index_or}
use Rattle.std.proofs.lemmas.Bool.{true≢false}
use Rattle.std.proofs.lemmas.Bool.Decides.{nat_tests}
use Rattle.std.proofs.lemmas.Grind.{get_or-set_at}
use Rattle.std.proofs.lemmas.List.{ext_get_or, get_or-set_other}
use Rattle.std.proofs.lemmas.List.FromFn.{get_or-map-range_with_len, length-map-range_with_len}
use Rattle.plan_laws.specs.Owners.{Owner, Beginning, CallOf, by_calls}
use Rattle.plan_laws.proofs.OpenCalls.{IsOver, none_beginning}

-- what each activation has, with one more thing for one of them, and without it
pub record Adds {X : Type 0} (top : Owner) (added : X) (without with_it : Owner → X) : Type 0 where
  pub own : with_it top ≡ added
  pub other : (owner : Owner) → owner ≢ top → with_it owner ≡ without owner

-- ---- the activations that go on

-- `first` is what the innermost activation has, and `around` is what those around it have; `IsBottom` says what the
-- host's own work has
module _ {X : Type 0} (first : List X → X) (around : List X → List X) (IsBottom : X → List X → Type 0) where
  -- the activations that go on have these shares, for the calls of imports that are open
  abbrev pub BegunAre : (Owner → X) → List Owner → List X → Type 0
  BegunAre has [] begun = IsBottom (has Beginning) begun
  BegunAre has (owner ∷ outer) begun = (first begun ≡ has owner) × BegunAre has outer (around begun)

  -- the activations around the innermost have nothing more
  pub around_are : (counts : ℕ → ℕ) (owner : Owner) (added : X) (without with_it : Owner → X) (outer : List Owner)
      (begun : List X) → Adds owner added without with_it → IsOver counts outer owner → BegunAre without outer begun
      → BegunAre with_it outer begun
  around_are counts owner added without with_it outer begun adds over are = by outer over.1 begun are
    where
      by : (list : List Owner) → AllByRecursion (λ other. owner ≢ other) list → (begun : List X)
          → BegunAre without list begun → BegunAre with_it list begun
      by [] apart begun h =
          subst (λ own. IsBottom own begun)
          (sym (adds.other Beginning (λ same. none_beginning counts owner over.0 (sym same)))) h
      by (other ∷ list) apart begun h =
          (h.0 ∙ sym (adds.other other (λ same. apart.0 (sym same))), by list apart.1 (around begun) h.1)

-- ---- the calls that are still to begin

-- the calls of an import that are still to begin: `count` of them, from the number `first` on
abbrev pub calls_from : {X : Type 0} → (Owner → X) → (import first count : ℕ) → List X
calls_from has import first count = map (λ number. has (CallOf import number)) (range_with_len first count)

one_more : (n : ℕ) → suc n ≡ n + 1
one_more n = omega arith

module _ {X : Type 0} (import : ℕ) (without with_it : Owner → X) where
  pub same_calls : (first count : ℕ)
      → ((number : ℕ) → first ≤ number → with_it (CallOf import number) ≡ without (CallOf import number))
      → calls_from without import first count ≡ calls_from with_it import first count
  same_calls first zero same = refl
  same_calls first (suc count) same =
      ap (λ call. call ∷ calls_from without import (first + 1) count) (sym (same first (omega arith)))
      ∙ ap (λ calls. with_it (CallOf import first) ∷ calls)
      (same_calls (first + 1) count (λ number from. same number (omega (arith, from))))

  -- a call of an import begins, `counts` calls of each import before it, and `own` is what the call has; `old` and `new`
  -- are the calls before and after it
  pub call_begins : {A : Type 0} (other : ℕ) (counts : ℕ → ℕ) (thing : A) (old new : List A) (own : X)
      (calls : List (List X)) → counts import ≡ length old → import < length calls
      → own ≡ with_it (CallOf other (counts other))
      → ((number : ℕ) → CallOf import number ≢ CallOf other (counts other)
      → with_it (CallOf import number) ≡ without (CallOf import number))
      → slice_index_or calls import []
      ≡ calls_from without import (length (cond (nat_eq import other) (thing ∷ old) old)) (length new)
      → slice_index_or (slice_set calls other (own ∷ slice_index_or calls other [])) import []
      ≡ calls_from with_it import (length old) (length (cond (nat_eq import other) (thing ∷ new) new))
  call_begins {A} other counts thing old new own calls many below has apart rest = by (nat_eq import other) refl rest
    where
      by : (b : Bool) → nat_eq import other ≡ b
          → slice_index_or calls import []
          ≡ calls_from without import (length (cond b (thing ∷ old) old)) (length new)
          → slice_index_or (slice_set calls other (own ∷ slice_index_or calls other [])) import []
          ≡ calls_from with_it import (length old) (length (cond b (thing ∷ new) new))
      by true e h =
          let same : import ≡ other = grind (arith, nat_tests, e) in
          let beyond : (number : ℕ) → length old + 1 ≤ number → CallOf import number ≢ CallOf other (counts other) =
          λ number from lie.
          let numbers : number ≡ counts other = cc lie in
          let all : counts other ≡ length old = ap counts (sym same) ∙ many in
          omega (arith, from, numbers, all) in
          get_or-set_at calls other import (own ∷ slice_index_or calls other []) [] same
          (subst (λ n. n < length calls) same below)
          ∙ ap (λ call. call ∷ slice_index_or calls other []) has
          ∙ ap (λ n. with_it (CallOf n (counts n)) ∷ slice_index_or calls n []) (sym same)
          ∙ ap (λ n. with_it (CallOf import n) ∷ slice_index_or calls import []) many
          ∙ ap (λ more. with_it (CallOf import (length old)) ∷ more)
          (h ∙ ap (λ n. calls_from without import n (length new)) (one_more (length old))
          ∙ same_calls (length old + 1) (length new) (λ number from. apart number (beyond number from)))
      by false e h =
          let different : import ≢ other = λ same.
          let yes : nat_eq import other ≡ true = grind (arith, nat_tests, same) in
          true≢false (sym yes ∙ e) in
          get_or-set_other calls other import (own ∷ slice_index_or calls other []) [] different ∙ h
          ∙ same_calls (length old) (length new) (λ number from. apart number (λ lie. different (cc lie)))

-- the calls of each import, from the beginning on
pub each_import : {X : Type 0} (imports : ℕ) (count : ℕ → ℕ) (has : Owner → X) (calls : List (List X))
    → length calls ≡ imports
    → ((import : ℕ) → import < imports → slice_index_or calls import [] ≡ calls_from has import 0 (count import))
    → calls ≡ by_calls imports count has
each_import {X} imports count has calls many each =
    let own : ℕ → List X = λ import. calls_from has import 0 (count import) in
    ext_get_or [] calls (map own (range_with_len 0 imports))
    (many ∙ sym (length-map-range_with_len own 0 imports))
    (λ import below.
    each import (omega (arith, below, many))
    ∙ sym (get_or-map-range_with_len own 0 imports import import [] (omega (arith, below, many)) (omega arith)))
