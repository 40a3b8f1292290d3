-- The cut of a tape: its segments from the one on that makes a top-level call.
use Rattle.std.specs.Prelude.{ℕ, List, [], ◌∷◌, Option, Some, None}
use Rattle.trace_model.specs.declared.tapes.Origin.TheVariants.{Begin}
use Rattle.trace_model.specs.declared.tapes.Next.{Next}
use Rattle.trace_model.specs.declared.tapes.Next.TheVariants.{Call, Return}
use Rattle.trace_model.specs.declared.tapes.Segment.{Segment}
use Rattle.rest_spec.specs.Rests.{without_one, with_call}
use Rattle.rest_spec.specs.KnownBefore.{open_after, by_end}

-- the segment as the first one of a tape
abbrev pub as_first : Segment → Segment
as_first segment = record segment { origin = Begin }

-- the segments from the one on that makes the top-level call of this number, if there is one, with `opened` calls of
-- imports open before the segments
abbrev pub cut_of : (number opened : ℕ) → List Segment → Option (List Segment)
cut_of number opened [] = None
cut_of number opened (segment ∷ later) =
    by_end (open_after segment.origin opened) number segment.next (Some (as_first segment ∷ later))
    (λ n o. cut_of n o later)

-- the number of top-level calls from the end of an activity on, by the number after it
abbrev pub calls_by_end : (opened : ℕ) → Next → (later : (opened : ℕ) → ℕ) → ℕ
calls_by_end opened (Call func args) later = with_call opened (later opened)
calls_by_end opened (Return result) later = later (without_one opened)
calls_by_end opened next later = later opened

-- the number of top-level calls that segments make, with `opened` calls of imports open before them
abbrev pub tape_calls : List Segment → (opened : ℕ) → ℕ
tape_calls [] opened = 0
tape_calls (segment ∷ later) opened =
    calls_by_end (open_after segment.origin opened) segment.next (λ o. tape_calls later o)
