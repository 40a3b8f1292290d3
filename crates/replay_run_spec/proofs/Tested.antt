-- What the plain tests decide.
use Rattle.std.proofs.Common.{◌≡◌, ℕ, zero, suc, ◌+◌, ◌*◌, ◌/◌, List, [], ◌∷◌, length, Some, Bool, true, nat_le, slice_get, refl, ap, ◌∙◌, subst, arith}
use Rattle.std.specs.Prelude.{drop, sum_by}
use Rattle.std.specs.List.{slice_index_or}
use Rattle.std.proofs.lemmas.Bool.Decides.{nat_tests}
use Rattle.base.proofs.Booleans.{and_parts, and_true}
use Rattle.trace_model.specs.declared.tapes.Segment.{Segment}
use Rattle.trace_model.specs.Weight.{segment_weight}
use Rattle.replay_run_spec.specs.Stretches.{AreSameChanges}
use Rattle.replay_run_spec.specs.Steps.{StepCount, IsWithinBound, AreWithinBound, is_within_bound, each_passes, calls_within_bound, are_within_bound}
use Rattle.replay_run_spec.specs.Laws.{EffectsAreTested, BoundsAreTested}
use Rattle.replay_run_spec.proofs.Joined.{joined_same}

pub effects_tested : EffectsAreTested
effects_tested [] [] e = _
effects_tested [] (changes ∷ more) e = absurd (cc e)
effects_tested (segment ∷ segments) [] e = absurd (cc e)
effects_tested (segment ∷ segments) (changes ∷ more) e = (
  subst (AreSameChanges changes) (ap (λ lists. slice_index_or lists 0 []) e) (joined_same changes),
  effects_tested segments more (ap (drop 1) e),
)

-- all items pass if and only if each item passes, by its index
each_found : {A B : Type 0} (test : A → B → Bool) (none : A) (xs : List A) (ys : List B)
    → each_passes test none xs ys ≡ true → (i : ℕ) (y : B) → slice_get ys i ≡ Some y
    → test (slice_index_or xs i none) y ≡ true
each_found test none xs [] e i y h = cc
each_found test none [] (first ∷ ys) e zero y h =
    subst (λ b. test none b ≡ true) (cc h) (and_parts (test none first) (each_passes test none [] ys) e).0
each_found test none [] (first ∷ ys) e (suc i) y h =
    each_found test none [] ys (and_parts (test none first) (each_passes test none [] ys) e).1 i y h
each_found test none (x ∷ xs) (first ∷ ys) e zero y h =
    subst (λ b. test x b ≡ true) (cc h) (and_parts (test x first) (each_passes test none xs ys) e).0
each_found test none (x ∷ xs) (first ∷ ys) e (suc i) y h =
    each_found test none xs ys (and_parts (test x first) (each_passes test none xs ys) e).1 i y h

each_of_found : {A B : Type 0} (test : A → B → Bool) (none : A) (xs : List A) (ys : List B)
    → ((i : ℕ) (y : B) → slice_get ys i ≡ Some y → test (slice_index_or xs i none) y ≡ true)
    → each_passes test none xs ys ≡ true
each_of_found test none xs [] found = refl
each_of_found test none [] (y ∷ ys) found =
    and_true (test none y) (each_passes test none [] ys) (found 0 y refl)
    (each_of_found test none [] ys (λ i. found (suc i)))
each_of_found test none (x ∷ xs) (y ∷ ys) found =
    and_true (test x y) (each_passes test none xs ys) (found 0 y refl)
    (each_of_found test none xs ys (λ i. found (suc i)))

within : (calls : ℕ) (segments : List Segment) (count : StepCount) → is_within_bound calls segments count ≡ true
    → IsWithinBound calls segments count
within calls segments count e =
    let p = and_parts (nat_le count.steps (32 + 8 * sum_by segment_weight segments))
    (nat_le count.blocks (259 + calls / 256)) e in
    record { steps = grind (arith, nat_tests, p.0); blocks = grind (arith, nat_tests, p.1) }

tested_within : (calls : ℕ) (segments : List Segment) (count : StepCount) → IsWithinBound calls segments count
    → is_within_bound calls segments count ≡ true
tested_within calls segments count within =
    and_true (nat_le count.steps (32 + 8 * sum_by segment_weight segments)) (nat_le count.blocks (259 + calls / 256))
    (let h = within.steps in grind (arith, nat_tests, h)) (let h = within.blocks in grind (arith, nat_tests, h))

index_of_get : {B : Type 0} (xs : List B) (none : B) (i : ℕ) (x : B) → slice_get xs i ≡ Some x
    → slice_index_or xs i none ≡ x
index_of_get [] none i x h = cc
index_of_get (first ∷ xs) none zero x h = cc h
index_of_get (first ∷ xs) none (suc i) x h = index_of_get xs none i x h

-- the counts of an import's calls pass: by the test of all counts, or since the import has none
import_passes : (plan : List (List (List Segment))) (counts : List (List StepCount))
    → are_within_bound plan counts ≡ true → (import : ℕ)
    → calls_within_bound (slice_index_or plan import []) (slice_index_or counts import []) ≡ true
import_passes plan [] e import = refl
import_passes [] (made ∷ counts) e zero =
    (and_parts (calls_within_bound [] made) (are_within_bound [] counts) e).0
import_passes [] (made ∷ counts) e (suc import) =
    import_passes [] counts (and_parts (calls_within_bound [] made) (are_within_bound [] counts) e).1 import
import_passes (calls ∷ plan) (made ∷ counts) e zero =
    (and_parts (calls_within_bound calls made) (are_within_bound plan counts) e).0
import_passes (calls ∷ plan) (made ∷ counts) e (suc import) =
    import_passes plan counts (and_parts (calls_within_bound calls made) (are_within_bound plan counts) e).1 import

pub bounds_tested : BoundsAreTested
bounds_tested plan counts = (holds, passes)
  where
    holds : are_within_bound plan counts ≡ true → AreWithinBound plan counts
    holds e import number count h =
        let calls = slice_index_or plan import [] in
        within (length calls) (slice_index_or calls number []) count
        (each_found (is_within_bound (length calls)) [] calls (slice_index_or counts import [])
        (import_passes plan counts e import) number count h)

    passes : AreWithinBound plan counts → are_within_bound plan counts ≡ true
    passes all =
        each_of_found calls_within_bound [] plan counts
        (λ import made get.
        let calls = slice_index_or plan import [] in
        each_of_found (is_within_bound (length calls)) [] calls made
        (λ number count h.
        tested_within (length calls) (slice_index_or calls number []) count
        (all import number count
        (ap (λ items. slice_get items number) (index_of_get counts [] import made get) ∙ h))))
