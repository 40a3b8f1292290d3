-- What a search for a top-level call finds in a tape, and the cut.
use Rattle.std.specs.Prelude.{◌≡◌, ℕ, ◌+◌, ◌≤◌, ◌<◌, List, [], ◌∷◌, length, drop, Some, None, Bool, true, false, Result, Ok, Err}
use Rattle.trace_model.specs.declared.tapes.Segment.{Segment}
use Rattle.trace_model.specs.declared.tapes.Tape.{Tape}
use Rattle.rest_spec.specs.Cuts.{as_first, cut_of, tape_calls}
use Rattle.checkpoint.specs.declared.cuts.CallSearch.{CallSearch}
use Rattle.checkpoint.specs.declared.cuts.CutFault.{CutFault}
use Rattle.checkpoint.specs.declared.cuts.CutFault.TheVariants.{NoCall, Memory}

-- segments as those of a tape, whose first one begins the run
abbrev pub begun : List Segment → List Segment
begun [] = []
begun (segment ∷ later) = as_first segment ∷ later

-- what a search does at a segment before others: the segment makes the call, or the search goes on with as many calls
-- less as the segment makes
abbrev pub IsSearched : (before after : CallSearch) → Segment → (later : List Segment) → (found : Bool) → Type 0
IsSearched before after segment later true =
    cut_of before.number before.opened (segment ∷ later) ≡ Some (as_first segment ∷ later)
IsSearched before after segment later false =
    (cut_of before.number before.opened (segment ∷ later) ≡ cut_of after.number after.opened later)
    × (tape_calls (segment ∷ later) before.opened + after.number ≡ before.number + tape_calls later after.opened)

-- the place of the segment that makes the top-level call of a number, from which on the segments are the cut; or the
-- number of top-level calls, if there are no more than that
abbrev pub IsCallPlace : (number : ℕ) → List Segment → Result ℕ ℕ → Type 0
IsCallPlace number segments (Ok place) =
    (place < length segments) × (cut_of number 0 segments ≡ Some (begun (drop place segments)))
IsCallPlace number segments (Err calls) =
    (cut_of number 0 segments ≡ None) × (calls ≡ tape_calls segments 0) × (calls ≤ number)

-- what `cut` returns: the cut of the tape if there is one, else the number of the tape's top-level calls, which is at
-- most the number of the call that is looked for; out of memory has no cause in the tape
abbrev pub IsCut : (number : ℕ) → Tape → Result Tape CutFault → Type 0
IsCut number tape (Ok cut) = cut_of number 0 tape.segments ≡ Some cut.segments
IsCut number tape (Err (NoCall calls)) =
    (cut_of number 0 tape.segments ≡ None) × (calls ≡ tape_calls tape.segments 0) × (calls ≤ number)
IsCut number tape (Err Memory) = Unit {0}
