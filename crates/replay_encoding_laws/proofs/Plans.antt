-- The sum over the activations and calls of a plan is at most that over the segments of its tape.
use Rattle.std.proofs.Common.{◌≡◌, ℕ, zero, suc, ◌+◌, ◌≤◌, List, [], ◌∷◌, refl, arith}
use Rattle.std.specs.Prelude.{replicate, slice_set}
use Rattle.std.specs.List.{slice_index_or}
use Rattle.trace_model.specs.declared.tapes.Origin.{Origin}
use Rattle.trace_model.specs.declared.tapes.Origin.TheVariants.{Begin, Import, Back}
use Rattle.trace_model.specs.declared.tapes.Next.{Next}
use Rattle.trace_model.specs.declared.tapes.Next.TheVariants.{Call, Return, End, Trap}
use Rattle.trace_model.specs.declared.tapes.Segment.{Segment}
use Rattle.trace_model.specs.declared.tapes.Tape.{Tape}
use Rattle.replay_module_spec.specs.Plans.{innermost, left_of, plan_of, with_origin, with_segment}

-- the sum of the costs of segments
abbrev pub segments_cost : (Segment → ℕ) → List Segment → ℕ
segments_cost cost [] = 0
segments_cost cost (segment ∷ segments) = cost segment + segments_cost cost segments

module _ (own : ℕ) (cost : Segment → ℕ) where
  -- the cost of an activation without its segments

  abbrev pub activations_cost : List (List Segment) → ℕ
  activations_cost [] = 0
  activations_cost (segments ∷ more) = own + segments_cost cost segments + activations_cost more

  abbrev pub calls_cost : List (List (List Segment)) → ℕ
  calls_cost [] = 0
  calls_cost (calls ∷ more) = activations_cost calls + calls_cost more

  -- a segment adds its cost, and perhaps an activation
  with_segment_cost : (segment : Segment) (next : Next) (begun : List (List Segment))
      → (first : List Segment) × (around : List (List Segment)) × (with_segment segment next begun ≡ first ∷ around)
      × (own + segments_cost cost first + activations_cost around ≤ own + cost segment + activations_cost begun)
  with_segment_cost segment (Call func args) [] = (segment ∷ [], [], refl, omega arith)
  with_segment_cost segment (Call func args) (first ∷ around) = (segment ∷ first, around, refl, omega arith)
  with_segment_cost segment (Return result) begun = (segment ∷ [], begun, refl, omega arith)
  with_segment_cost segment End begun = (segment ∷ [], begun, refl, omega arith)
  with_segment_cost segment Trap begun = (segment ∷ [], begun, refl, omega arith)

  set_cost : (calls : List (List (List Segment))) (import : ℕ) (first : List Segment)
      → calls_cost (slice_set calls import (first ∷ slice_index_or calls import []))
      ≤ own + segments_cost cost first + calls_cost calls
  set_cost [] import first = omega arith
  set_cost (calls ∷ more) zero first = omega arith
  set_cost (calls ∷ more) (suc import) first = let later = set_cost more import first in omega (arith, later)

  -- an origin moves at most one activation
  with_origin_cost : (origin : Origin) (first : List Segment) (around : List (List Segment))
      (calls : List (List (List Segment)))
      → activations_cost (with_origin origin (first ∷ around) calls).begun
      + calls_cost (with_origin origin (first ∷ around) calls).calls
      ≤ own + segments_cost cost first + activations_cost around + calls_cost calls
  with_origin_cost Begin first around calls = omega arith
  with_origin_cost (Import import) first around calls =
      let moved = set_cost calls import first in omega (arith, moved)
  with_origin_cost Back first around calls = omega arith

  no_calls_cost : (imports : ℕ) → calls_cost (replicate imports []) ≡ 0
  no_calls_cost zero = refl
  no_calls_cost (suc imports) = let later = no_calls_cost imports in omega (arith, later)

  abbrev pub all_cost : List Segment → ℕ
  all_cost [] = 0
  all_cost (segment ∷ segments) = own + cost segment + all_cost segments

  left_cost : (imports : ℕ) (segments : List Segment)
      → activations_cost (left_of imports segments).begun + calls_cost (left_of imports segments).calls
      ≤ all_cost segments
  left_cost imports [] = let none = no_calls_cost imports in omega (arith, none)
  left_cost imports (segment ∷ later) =
      by (left_of imports later).begun (left_of imports later).calls
      (with_segment segment segment.next (left_of imports later).begun)
      (with_segment_cost segment segment.next (left_of imports later).begun) (left_cost imports later)
    where
      by : (begun : List (List Segment)) (calls : List (List (List Segment))) (now : List (List Segment))
          → ((first : List Segment) × (around : List (List Segment)) × (now ≡ first ∷ around)
          × (own + segments_cost cost first + activations_cost around ≤ own + cost segment + activations_cost begun))
          → activations_cost begun + calls_cost calls ≤ all_cost later
          → activations_cost (with_origin segment.origin now calls).begun
          + calls_cost (with_origin segment.origin now calls).calls
          ≤ all_cost (segment ∷ later)
      by begun calls now given rest =
          let same = given.2 in
          let more = given.3 in
          rw (same) (omega (arith, with_origin_cost segment.origin given.0 given.1 calls, more, rest))

  first_cost : (begun : List (List Segment)) → segments_cost cost (innermost begun) ≤ activations_cost begun
  first_cost [] = omega arith
  first_cost (segments ∷ around) = omega arith

  -- the sum over the activations of a plan is at most that over the segments of its tape
  pub plan_cost : (imports : ℕ) (tape : Tape)
      → segments_cost cost (plan_of imports tape).begin + calls_cost (plan_of imports tape).imports
      ≤ all_cost tape.segments
  plan_cost imports tape =
      omega (arith, left_cost imports tape.segments, first_cost (left_of imports tape.segments).begun)
