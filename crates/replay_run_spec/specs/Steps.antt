-- The number of steps that functions outside the original make in each call of an import, until it returns or
-- the run ends.
use Rattle.std.specs.Prelude.{◌≡◌, ℕ, ◌+◌, ◌*◌, ◌/◌, ◌≤◌, List, [], ◌∷◌, length, replicate, slice_get, slice_set, sum_by, Some, Bool, true, false, ◌&&◌, nat_le}
use Rattle.std.specs.List.{slice_index_or}
use Rattle.trace_model.specs.declared.tapes.Segment.{Segment}
use Rattle.trace_model.specs.Weight.{segment_weight}
use Rattle.history_spec.specs.declared.entries.Entry.{Entry}
use Rattle.history_spec.specs.declared.entries.Entry.TheVariants.{ImportCall, ImportReturn}
use Rattle.replay_run_spec.specs.Items.{Item, Makes, Changes, Steps}

-- the number of steps of `block`, and of all other steps
pub record StepCount : Type 0 where
  pub steps : ℕ
  pub blocks : ℕ

abbrev pub no_steps : StepCount
no_steps = record { steps = 0; blocks = 0 }

-- one more step
abbrev pub one_more : (block : Bool) → StepCount → StepCount
one_more true count = record count { blocks = 1 + count.blocks }
one_more false count = record count { steps = 1 + count.steps }

-- the steps that follow a place of a run: those of each activation of the host that has begun, the innermost
-- first; and those of each call that is still to begin, by imports and by time
pub record StepsLeft : Type 0 where
  pub begun : List StepCount
  pub calls : List (List StepCount)

abbrev pub innermost_count : List StepCount → StepCount
innermost_count [] = no_steps
innermost_count (count ∷ around) = count

abbrev pub around_innermost : List StepCount → List StepCount
around_innermost [] = []
around_innermost (count ∷ around) = around

-- a step is counted for the innermost activation
abbrev pub with_step : (block : Bool) → StepsLeft → StepsLeft
with_step block left =
    record left { begun = one_more block (innermost_count left.begun) ∷ around_innermost left.begun }

-- the steps from the place before an entry on: before a call of an import begins, the call is still to begin;
-- before its return, the call has begun
abbrev pub with_entry : Entry → StepsLeft → StepsLeft
with_entry (ImportCall import args) left =
    record {
      begun = around_innermost left.begun;
      calls = slice_set left.calls import (innermost_count left.begun ∷ slice_index_or left.calls import []);
    }
with_entry (ImportReturn import results) left = record left { begun = no_steps ∷ left.begun }
with_entry entry left = left

-- the steps of shown items, for a module with this number of imported functions
abbrev pub steps_left : (imports : ℕ) → List Item → StepsLeft
steps_left imports [] = record { begun = []; calls = replicate imports [] }
steps_left imports (Makes entry ∷ later) = with_entry entry (steps_left imports later)
steps_left imports (Changes change ∷ later) = steps_left imports later
steps_left imports (Steps block ∷ later) = with_step block (steps_left imports later)

-- the calls of each import, with the steps of each call
abbrev pub call_steps : (imports : ℕ) → List Item → List (List StepCount)
call_steps imports items = (steps_left imports items).calls

-- ---- the bound

-- the steps of a call are at most 32, and 8 for each unit of weight of its segments; the steps of `block` are at
-- most 259, and one for each 256 calls of its import; these numbers are the bound's own, not the generator's
-- constants
pub record IsWithinBound (calls : ℕ) (segments : List Segment) (count : StepCount) : Type 0 where
  pub steps : count.steps ≤ 32 + 8 * sum_by segment_weight segments
  pub blocks : count.blocks ≤ 259 + calls / 256

-- each call in a run, by its import and its number among that import's calls, is within the bound of the
-- segments that the plan has for it; a call that the plan does not have is within the bound of no segments
abbrev pub AreWithinBound : (plan : List (List (List Segment))) → List (List StepCount) → Type 0
AreWithinBound plan counts = (import number : ℕ) (count : StepCount)
    → slice_get (slice_index_or counts import []) number ≡ Some count
    → IsWithinBound (length (slice_index_or plan import []))
    (slice_index_or (slice_index_or plan import []) number []) count

-- the plain test of the bound
abbrev pub is_within_bound : (calls : ℕ) → List Segment → StepCount → Bool
is_within_bound calls segments count =
    nat_le count.steps (32 + 8 * sum_by segment_weight segments) && nat_le count.blocks (259 + calls / 256)

-- each of the second items passes the test with the first item at its place, or with `none` if there is no such
-- item
abbrev pub each_passes : {A B : Type 0} → (A → B → Bool) → (none : A) → List A → List B → Bool
each_passes test none xs [] = true
each_passes test none [] (y ∷ ys) = test none y && each_passes test none [] ys
each_passes test none (x ∷ xs) (y ∷ ys) = test x y && each_passes test none xs ys

abbrev pub calls_within_bound : (calls : List (List Segment)) → List StepCount → Bool
calls_within_bound calls counts = each_passes (is_within_bound (length calls)) [] calls counts

abbrev pub are_within_bound : (plan : List (List (List Segment))) → List (List StepCount) → Bool
are_within_bound plan counts = each_passes calls_within_bound [] plan counts
