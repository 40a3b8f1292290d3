-- The remaining steps at a place of a run, beside the rest of the tape.
use Rattle.std.proofs.Common.{◌≡◌, ℕ, zero, suc, ◌+◌, ◌*◌, ◌/◌, ◌<◌, ◌≤◌, List, [], ◌∷◌, ◌++◌, length, Some, Bool, true, false, slice_get, slice_set, replicate, refl, sym, ap, ◌∙◌, subst, arith}
use Rattle.std.specs.Prelude.{map, nat_eq, sum_by}
use Rattle.std.specs.List.{slice_index_or}
use Rattle.std.proofs.lemmas.Bool.Decides.{nat_tests}
use Rattle.std.proofs.lemmas.List.Sums.{sum_by-cons}
use Rattle.trace_model.specs.declared.tapes.Next.{Next}
use Rattle.trace_model.specs.declared.tapes.Next.TheVariants.{Call as Calls, Return as Returns, End as Ends, Trap as Traps}
use Rattle.trace_model.specs.declared.tapes.Origin.{Origin}
use Rattle.trace_model.specs.declared.tapes.Origin.TheVariants.{Begin, Back, Import}
use Rattle.trace_model.specs.declared.tapes.Segment.{Segment}
use Rattle.trace_model.specs.Weight.{effect_weight, next_weight, segment_weight}
use Rattle.history_spec.specs.declared.entries.Entry.{Entry}
use Rattle.history_spec.specs.declared.entries.Entry.TheVariants.{ImportCall}
use Rattle.replay_module_spec.specs.declared.plans.Plan.{Plan}
use Rattle.replay_module_spec.specs.Plans.{innermost, around_innermost, left_of, with_origin, with_segment}
use Rattle.replay_run_spec.specs.Items.{Item, Makes, Changes, Steps, entries_in}
use Rattle.replay_run_spec.proofs.CallCounts.{calls_many}
use Rattle.replay_run_spec.specs.Steps.{StepCount, StepsLeft, IsWithinBound, innermost_count, around_innermost as around_counts, no_steps, one_more, steps_left, with_entry, with_step}
use Rattle.replay_module_laws.proofs.FittingPlans.{left_length, next_weighs}
use Rattle.generated_code_laws.specs.Counts.{steps_in}
use Rattle.generated_code_laws.proofs.CallsLeft.{none_replicated, set_is, set_other}

-- ---- the bound at a place

-- the additional steps that an activation may make: `extra` for the innermost, 0 for the others
abbrev pub extra_at : (extra i : ℕ) → ℕ
extra_at extra zero = extra
extra_at extra (suc i) = 0

none_extra : (i : ℕ) → extra_at 0 i ≡ 0
none_extra zero = refl
none_extra (suc i) = refl

-- an activation that has begun makes at most these steps and 8 for each unit of weight, and no step of `block`
pub record IsCovered (extra : ℕ) (segments : List Segment) (count : StepCount) : Type 0 where
  pub steps : count.steps ≤ extra + 8 * sum_by segment_weight segments
  pub blocks : count.blocks ≡ 0

-- each activation that has begun makes at most the steps of its remaining segments, the innermost some more; and each
-- call that begins later is within the bound
pub record IsBounded (plan : Plan) (extra : ℕ) (begun : List (List Segment)) (calls : List (List (List Segment)))
    (s : StepsLeft) : Type 0 where
  pub covered : (i : ℕ) → IsCovered (extra_at extra i) (slice_index_or begun i []) (slice_index_or s.begun i no_steps)
  pub within : (import number : ℕ) (count : StepCount)
      → slice_get (slice_index_or s.calls import []) number ≡ Some count
      → IsWithinBound (length (slice_index_or plan.imports import []))
      (slice_index_or (slice_index_or calls import []) number []) count

-- ---- steps

first_count : (counts : List StepCount) → innermost_count counts ≡ slice_index_or counts 0 no_steps
first_count [] = refl
first_count (count ∷ counts) = refl

around_count : (counts : List StepCount) (i : ℕ)
    → slice_index_or (around_counts counts) i no_steps ≡ slice_index_or counts (suc i) no_steps
around_count [] i = refl
around_count (count ∷ counts) i = refl

around_begun : (begun : List (List Segment)) (i : ℕ)
    → slice_index_or (around_innermost begun) i [] ≡ slice_index_or begun (suc i) []
around_begun [] i = refl
around_begun (segments ∷ begun) i = refl

first_begun : (begun : List (List Segment)) → innermost begun ≡ slice_index_or begun 0 []
first_begun [] = refl
first_begun (segments ∷ begun) = refl

-- the steps among items belong to the innermost activation
record IsAdded (count : StepCount) (before after : StepsLeft) : Type 0 where
  pub steps : (slice_index_or before.begun 0 no_steps).steps
      ≡ count.steps + (slice_index_or after.begun 0 no_steps).steps
  pub blocks : (slice_index_or before.begun 0 no_steps).blocks
      ≡ count.blocks + (slice_index_or after.begun 0 no_steps).blocks
  pub around : (i : ℕ) → slice_index_or before.begun (suc i) no_steps ≡ slice_index_or after.begun (suc i) no_steps
  pub calls : before.calls ≡ after.calls

one_added : (block : Bool) (count : StepCount) (before after : StepsLeft) → IsAdded count before after
    → IsAdded (one_more block count) (with_step block before) after
one_added true count before after a =
    let first = ap (λ (c : StepCount). c.blocks) (first_count before.begun) in
    let sum = a.blocks in
    record {
      steps = ap (λ (c : StepCount). c.steps) (first_count before.begun) ∙ a.steps;
      blocks = omega (arith, first, sum);
      around = λ i. around_count before.begun i ∙ a.around i;
      calls = a.calls;
    }
one_added false count before after a =
    let first = ap (λ (c : StepCount). c.steps) (first_count before.begun) in
    let sum = a.steps in
    record {
      steps = omega (arith, first, sum);
      blocks = ap (λ (c : StepCount). c.blocks) (first_count before.begun) ∙ a.blocks;
      around = λ i. around_count before.begun i ∙ a.around i;
      calls = a.calls;
    }

items_added : (imports : ℕ) (items rest : List Item) → entries_in items ≡ []
    → IsAdded (steps_in items) (steps_left imports (items ++ rest)) (steps_left imports rest)
items_added imports [] rest silent =
    record { steps = omega arith; blocks = omega arith; around = λ i. refl; calls = refl }
items_added imports (Makes entry ∷ items) rest silent = absurd (cc silent)
items_added imports (Changes change ∷ items) rest silent = items_added imports items rest silent
items_added imports (Steps block ∷ items) rest silent =
    one_added block (steps_in items) (steps_left imports (items ++ rest)) (steps_left imports rest)
    (items_added imports items rest silent)

-- ---- the bound before items, from the bound after them

module _ (plan : Plan) (begun : List (List Segment)) (calls : List (List (List Segment))) where
  -- the bound holds before items that show no entry and contain no step of `block`
  pub bounded_before : (imports extra more : ℕ) (items rest : List Item) → entries_in items ≡ []
      → (steps_in items).steps + extra ≤ more → (steps_in items).blocks ≡ 0
      → IsBounded plan extra begun calls (steps_left imports rest)
      → IsBounded plan more begun calls (steps_left imports (items ++ rest))
  bounded_before imports extra more items rest silent few blocks b =
      record { covered = covered; within = within }
    where
      a : IsAdded (steps_in items) (steps_left imports (items ++ rest)) (steps_left imports rest)
      a = items_added imports items rest silent

      covered : (i : ℕ) → IsCovered (extra_at more i) (slice_index_or begun i [])
          (slice_index_or (steps_left imports (items ++ rest)).begun i no_steps)
      covered zero =
          let c = b.covered 0 in
          let low = c.steps in
          let none = c.blocks in
          let steps = a.steps in
          let sum = a.blocks in
          record { steps = omega (arith, low, steps, few); blocks = omega (arith, none, sum, blocks) }
      covered (suc i) = subst (IsCovered 0 (slice_index_or begun (suc i) [])) (sym (a.around i)) (b.covered (suc i))

      within : (import number : ℕ) (count : StepCount)
          → slice_get (slice_index_or (steps_left imports (items ++ rest)).calls import []) number ≡ Some count
          → IsWithinBound (length (slice_index_or plan.imports import []))
          (slice_index_or (slice_index_or calls import []) number []) count
      within import number count h =
          b.within import number count
          (subst (λ (l : List (List StepCount)). slice_get (slice_index_or l import []) number ≡ Some count) a.calls h)

  -- the bound holds before the return of an import, whose activation has no segments left
  pub bounded_return : (imports import : ℕ) (s : StepsLeft) → IsBounded plan 0 begun calls s
      → IsBounded plan 0 ([] ∷ begun) calls (record s { begun = no_steps ∷ s.begun })
  bounded_return imports import s b = record { covered = covered; within = b.within }
    where
      covered : (i : ℕ) → IsCovered (extra_at 0 i) (slice_index_or ([] ∷ begun) i [])
          (slice_index_or (no_steps ∷ s.begun) i no_steps)
      covered zero = record { steps = omega arith; blocks = refl }
      covered (suc i) =
          subst (λ extra. IsCovered extra (slice_index_or begun i []) (slice_index_or s.begun i no_steps))
          (none_extra i) (b.covered i)

  pub none_bounded : (imports : ℕ) → IsBounded plan 0 begun calls (steps_left imports [])
  none_bounded imports =
      record {
        covered = λ i. record { steps = omega arith; blocks = refl };
        within = λ import number count h.
            absurd (cc (subst (λ (l : List StepCount). slice_get l number ≡ Some count)
            (none_replicated imports import) h));
      }

-- ---- entries

-- the remaining steps before entries, from those after them
abbrev pub left_before : List Entry → StepsLeft → StepsLeft
left_before [] s = s
left_before (entry ∷ later) s = with_entry entry (left_before later s)

-- the entries contain no call of an import and no return of one
abbrev pub AreWithinCalls : List Entry → Type 0
AreWithinCalls entries = (s : StepsLeft) → left_before entries s ≡ s

made_left : (imports : ℕ) (entries : List Entry) (rest : List Item)
    → steps_left imports (map Makes entries ++ rest) ≡ left_before entries (steps_left imports rest)
made_left imports [] rest = refl
made_left imports (entry ∷ entries) rest = ap (with_entry entry) (made_left imports entries rest)

left_both : (first second : List Entry) (s : StepsLeft)
    → left_before (first ++ second) s ≡ left_before first (left_before second s)
left_both [] second s = refl
left_both (entry ∷ first) second s = ap (with_entry entry) (left_both first second s)

-- the remaining steps before two lists of entries, if the second contains no call and no return of an import
pub made_then : (imports : ℕ) (first second : List Entry) (rest : List Item) → AreWithinCalls second
    → steps_left imports (map Makes (first ++ second) ++ rest) ≡ left_before first (steps_left imports rest)
made_then imports first second rest within =
    made_left imports (first ++ second) rest ∙ left_both first second (steps_left imports rest)
    ∙ ap (left_before first) (within (steps_left imports rest))

pub made_bounded : (plan : Plan) (extra imports : ℕ) (begun : List (List Segment))
    (calls : List (List (List Segment))) (first second : List Entry) (rest : List Item) → AreWithinCalls second
    → IsBounded plan extra begun calls (left_before first (steps_left imports rest))
    → IsBounded plan extra begun calls (steps_left imports (map Makes (first ++ second) ++ rest))
made_bounded plan extra imports begun calls first second rest within b =
    subst (IsBounded plan extra begun calls) (sym (made_then imports first second rest within)) b

-- the number of steps in a list of steps alone
pub steps_counted : (count : ℕ) → ((steps_in (replicate count (Steps false))).steps ≡ count)
    × ((steps_in (replicate count (Steps false))).blocks ≡ 0)
steps_counted zero = (refl, refl)
steps_counted (suc count) =
    let later = steps_counted count in let steps = later.0 in (omega (arith, steps), later.1)

-- ---- a segment

-- the remaining segments after the effects of a segment, before control leaves it
abbrev pub with_next : Next → List (List Segment) → List (List Segment)
with_next (Calls func args) begun = begun
with_next next begun = [] ∷ begun

-- the steps of effects, and of how control leaves: one of each 8 is kept for a result that is returned
abbrev pub segment_steps : Segment → ℕ
segment_steps segment = 8 * sum_by effect_weight segment.effects + 7 * next_weight segment.next

-- the most steps with which control reaches a segment, by the segment's origin
abbrev pub most_before : Plan → Origin → StepCount
most_before plan Begin = record { steps = 0; blocks = 0 }
most_before plan Back = record { steps = 1; blocks = 0 }
most_before plan (Import import) =
    record { steps = 16; blocks = 259 + length (slice_index_or plan.imports import []) / 256 }

-- the entry that comes before a segment
abbrev pub arrival : Origin → List Item
arrival (Import import) = Makes (ImportCall import []) ∷ []
arrival origin = []

-- a segment weighs as much as it adds to the segments of its activation
weighs : (segment : Segment) (next : Next) (begun : List (List Segment)) → next ≡ segment.next
    → sum_by segment_weight (slice_index_or (with_next next begun) 0 []) + segment_weight segment
    ≡ sum_by segment_weight (innermost (with_segment segment next begun))
weighs segment (Calls func args) [] e =
    let sum = sum_by-cons segment_weight segment [] in omega (arith, sum)
weighs segment (Calls func args) (segments ∷ begun) e =
    let sum = sum_by-cons segment_weight segment segments in omega (arith, sum)
weighs segment (Returns result) begun e =
    let sum = sum_by-cons segment_weight segment [] in omega (arith, sum)
weighs segment Ends begun e = let sum = sum_by-cons segment_weight segment [] in omega (arith, sum)
weighs segment Traps begun e = let sum = sum_by-cons segment_weight segment [] in omega (arith, sum)

around_same : (segment : Segment) (next : Next) (begun : List (List Segment)) (i : ℕ)
    → slice_index_or (with_next next begun) (suc i) []
    ≡ slice_index_or (around_innermost (with_segment segment next begun)) i []
around_same segment (Calls func args) begun i = sym (around_begun begun i)
around_same segment (Returns result) begun i = refl
around_same segment Ends begun i = refl
around_same segment Traps begun i = refl

-- the bound where control reaches the next segment
module _ (plan : Plan) (imports : ℕ) (segment : Segment) (later : List Segment) (items rest : List Item)
    (silent : entries_in items ≡ [])
    (b : IsBounded plan (segment_steps segment) (with_next segment.next (left_of imports later).begun)
    (left_of imports later).calls (steps_left imports rest)) where
  abbrev own : List (List Segment)
  own = with_segment segment segment.next (left_of imports later).begun

  abbrev next_calls : List (List (List Segment))
  next_calls = (left_of imports later).calls

  abbrev s : StepsLeft
  s = steps_left imports (items ++ rest)

  added : IsAdded (steps_in items) s (steps_left imports rest)
  added = items_added imports items rest silent

  -- the steps of the activation that plays the segment
  first_steps : (most : ℕ) → (steps_in items).steps ≤ most
      → (slice_index_or s.begun 0 no_steps).steps + next_weight segment.next
      ≤ most + 8 * sum_by segment_weight (innermost own)
  first_steps most few =
      let low = (b.covered 0).steps in
      let sum = added.steps in
      let whole = weighs segment segment.next (left_of imports later).begun refl in
      let parts : segment_weight segment ≡ sum_by effect_weight segment.effects + next_weight segment.next = refl in
      omega (arith, low, sum, whole, few, parts)

  first_blocks : (slice_index_or s.begun 0 no_steps).blocks ≡ (steps_in items).blocks
  first_blocks = let none = (b.covered 0).blocks in let sum = added.blocks in omega (arith, none, sum)

  -- the steps of the activations around it
  around_covered : (i : ℕ) → IsCovered 0 (slice_index_or (around_innermost own) i [])
      (slice_index_or (around_counts s.begun) i no_steps)
  around_covered i =
      subst (IsCovered 0 (slice_index_or (around_innermost own) i []))
      (sym (around_count s.begun i ∙ added.around i))
      (subst (λ segments. IsCovered 0 segments (slice_index_or (steps_left imports rest).begun (suc i) no_steps))
      (around_same segment segment.next (left_of imports later).begun i) (b.covered (suc i)))

  calls_within : (import number : ℕ) (count : StepCount)
      → slice_get (slice_index_or s.calls import []) number ≡ Some count
      → IsWithinBound (length (slice_index_or plan.imports import []))
      (slice_index_or (slice_index_or next_calls import []) number []) count
  calls_within import number count h =
      b.within import number count
      (subst (λ (l : List (List StepCount)). slice_get (slice_index_or l import []) number ≡ Some count) added.calls h)

  -- the bound before a segment that control reaches by at most one step
  stays : (steps_in items).steps ≤ 1 → (steps_in items).blocks ≡ 0 → IsBounded plan 0 own next_calls s
  stays few none = record { covered = covered; within = calls_within }
    where
      covered : (i : ℕ) → IsCovered (extra_at 0 i) (slice_index_or own i []) (slice_index_or s.begun i no_steps)
      covered zero =
          let steps = first_steps 1 few in
          let one = next_weighs segment.next in
          let same = ap (sum_by segment_weight) (first_begun own) in
          record { steps = omega (arith, steps, one, same); blocks = first_blocks ∙ none }
      covered (suc i) =
          subst (IsCovered 0 (slice_index_or own (suc i) [])) (around_count s.begun i)
          (subst (λ segments. IsCovered 0 segments (slice_index_or (around_counts s.begun) i no_steps))
          (around_begun own i) (around_covered i))

  -- the bound before a segment that control reaches by the dispatch of a call
  begins_call : (import : ℕ) → import < imports → (steps_in items).steps ≤ 16
      → (steps_in items).blocks ≤ 259 + length (slice_index_or plan.imports import []) / 256
      → IsBounded plan 0 (around_innermost own) (slice_set next_calls import (innermost own
      ∷ slice_index_or next_calls import [])) (steps_left imports (Makes (ImportCall import []) ∷ (items ++ rest)))
  begins_call import below few few_blocks = record { covered = covered; within = within }
    where
      covered : (i : ℕ) → IsCovered (extra_at 0 i) (slice_index_or (around_innermost own) i [])
          (slice_index_or (around_counts s.begun) i no_steps)
      covered i =
          subst (λ extra. IsCovered extra (slice_index_or (around_innermost own) i [])
          (slice_index_or (around_counts s.begun) i no_steps)) (sym (none_extra i)) (around_covered i)

      count_here : StepCount
      count_here = innermost_count s.begun

      here : IsWithinBound (length (slice_index_or plan.imports import [])) (innermost own) count_here
      here =
          let steps = first_steps 16 few in
          let same = ap (λ (c : StepCount). c.steps) (first_count s.begun) in
          let blocks = ap (λ (c : StepCount). c.blocks) (first_count s.begun) ∙ first_blocks in
          record { steps = omega (arith, steps, same); blocks = omega (arith, blocks, few_blocks) }

      counts_with : List (List StepCount)
      counts_with = slice_set s.calls import (count_here ∷ slice_index_or s.calls import [])

      calls_with : List (List (List Segment))
      calls_with = slice_set next_calls import (innermost own ∷ slice_index_or next_calls import [])

      of_import : (number : ℕ) (count : StepCount)
          → slice_get (count_here ∷ slice_index_or s.calls import []) number ≡ Some count
          → IsWithinBound (length (slice_index_or plan.imports import []))
          (slice_index_or (innermost own ∷ slice_index_or next_calls import []) number []) count
      of_import zero count h =
          let same : count_here ≡ count = cc h in
          subst (IsWithinBound (length (slice_index_or plan.imports import [])) (innermost own)) same here
      of_import (suc number) count h = calls_within import number count h

      within : (other number : ℕ) (count : StepCount)
          → slice_get (slice_index_or counts_with other []) number ≡ Some count
          → IsWithinBound (length (slice_index_or plan.imports other []))
          (slice_index_or (slice_index_or calls_with other []) number []) count
      within other number count h = go (nat_eq import other) refl
        where
          many : import < length s.calls
          many = let e = calls_many imports (items ++ rest) in omega (arith, e, below)

          many_calls : import < length next_calls
          many_calls = let e = left_length imports later in omega (arith, e, below)

          go : (t : Bool) → nat_eq import other ≡ t
              → IsWithinBound (length (slice_index_or plan.imports other []))
              (slice_index_or (slice_index_or calls_with other []) number []) count
          go true e =
              let same : import ≡ other = grind (arith, nat_tests, e) in
              subst (λ i. IsWithinBound (length (slice_index_or plan.imports i []))
              (slice_index_or (slice_index_or calls_with i []) number []) count) same
              (subst (λ l. IsWithinBound (length (slice_index_or plan.imports import []))
              (slice_index_or l number []) count)
              (sym (set_is next_calls import (innermost own ∷ slice_index_or next_calls import []) [] many_calls))
              (of_import number count
              (subst (λ (l : List StepCount). slice_get l number ≡ Some count)
              (set_is s.calls import (count_here ∷ slice_index_or s.calls import []) [] many)
              (subst (λ i. slice_get (slice_index_or counts_with i []) number ≡ Some count) (sym same) h))))
          go false e =
              let differ : import ≡ other → ⊥ = (λ same. absurd (grind (arith, nat_tests, e, same))) in
              subst (λ l. IsWithinBound (length (slice_index_or plan.imports other []))
              (slice_index_or l number []) count)
              (sym (set_other next_calls import other (innermost own ∷ slice_index_or next_calls import []) [] differ))
              (calls_within other number count
              (subst (λ (l : List StepCount). slice_get l number ≡ Some count)
              (set_other s.calls import other (count_here ∷ slice_index_or s.calls import []) [] differ) h))

  -- the bound before a segment, by its origin
  pub arrives : (origin : Origin) → segment.origin ≡ origin → ((import : ℕ) → origin ≡ Import import → import < imports)
      → (steps_in items).steps ≤ (most_before plan origin).steps
      → (steps_in items).blocks ≤ (most_before plan origin).blocks
      → IsBounded plan 0 (left_of imports (segment ∷ later)).begun (left_of imports (segment ∷ later)).calls
      (steps_left imports (arrival origin ++ (items ++ rest)))
  arrives origin same below few few_blocks =
      subst
      (λ (o : Origin). IsBounded plan 0 (with_origin o own next_calls).begun (with_origin o own next_calls).calls
      (steps_left imports (arrival origin ++ (items ++ rest)))) (sym same)
      (go origin below few few_blocks)
    where
      go : (origin : Origin) → ((import : ℕ) → origin ≡ Import import → import < imports)
          → (steps_in items).steps ≤ (most_before plan origin).steps
          → (steps_in items).blocks ≤ (most_before plan origin).blocks
          → IsBounded plan 0 (with_origin origin own next_calls).begun (with_origin origin own next_calls).calls
          (steps_left imports (arrival origin ++ (items ++ rest)))
      go Begin below few few_blocks = stays (omega (arith, few)) (omega (arith, few_blocks))
      go Back below few few_blocks = stays few (omega (arith, few_blocks))
      go (Import import) below few few_blocks = begins_call import (below import refl) few few_blocks
