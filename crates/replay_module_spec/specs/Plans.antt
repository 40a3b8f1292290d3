-- The plan of a tape: which of its segments each activation of the host has. The tape is read from its end, so
-- that the rest of the tape from any place on has a value. The plan is meant for a tape that fits the module;
-- for another tape it has no meaning, for example because an import past the module's has no place in it.
use Rattle.std.specs.Prelude.{ℕ, List, [], ◌∷◌, replicate, slice_set}
use Rattle.std.specs.List.{slice_index_or}
use Rattle.trace_model.specs.declared.tapes.Origin.{Origin}
use Rattle.trace_model.specs.declared.tapes.Origin.TheVariants.{Import}
use Rattle.trace_model.specs.declared.tapes.Next.{Next}
use Rattle.trace_model.specs.declared.tapes.Next.TheVariants.{Call}
use Rattle.trace_model.specs.declared.tapes.Segment.{Segment}
use Rattle.trace_model.specs.declared.tapes.Tape.{Tape}
use Rattle.replay_module_spec.specs.declared.plans.Plan.{Plan}

-- what the rest of a tape still does: the segments that each activation of the host which has begun still has,
-- the innermost first; and for each import its calls that are still to begin, by time, each with its segments
pub record Left : Type 0 where
  pub begun : List (List Segment)
  pub calls : List (List (List Segment))

-- the segments that the innermost activation still has
abbrev pub innermost : List (List Segment) → List Segment
innermost [] = []
innermost (segments ∷ around) = segments

-- the activations around the innermost
abbrev pub around_innermost : List (List Segment) → List (List Segment)
around_innermost [] = []
around_innermost (segments ∷ around) = around

-- a segment in front of the rest: if it calls, its activation goes on later; otherwise its activation ends with
-- it
abbrev pub with_segment : Segment → Next → List (List Segment) → List (List Segment)
with_segment segment (Call func args) begun = (segment ∷ innermost begun) ∷ around_innermost begun
with_segment segment next begun = (segment ∷ []) ∷ begun

-- if a call of an import begins, its activation is the innermost, and before that the call is still to begin
abbrev pub with_origin : Origin → List (List Segment) → List (List (List Segment)) → Left
with_origin (Import import) begun calls =
    record {
      begun = around_innermost begun;
      calls = slice_set calls import (innermost begun ∷ slice_index_or calls import []);
    }
with_origin origin begun calls = record { begun = begun; calls = calls }

-- what segments still do, for a module with this number of imported functions
abbrev pub left_of : (imports : ℕ) → List Segment → Left
left_of imports [] = record { begun = []; calls = replicate imports [] }
left_of imports (segment ∷ later) =
    with_origin segment.origin (with_segment segment segment.next (left_of imports later).begun)
    (left_of imports later).calls

-- the plan of a tape, for a module with this number of imported functions
abbrev pub plan_of : (imports : ℕ) → Tape → Plan
plan_of imports tape =
    record {
      begin = innermost (left_of imports tape.segments).begun;
      imports = (left_of imports tape.segments).calls;
    }
