-- The segments of a tape whose weight is limited.
use Rattle.std.specs.Prelude.{◌≡◌, ◌-◌, ◌^◌, ◌≤◌, ◌<◌, List, [], min, sum_by}
use Rattle.trace_model.specs.Weight.{segment_weight}
use Rattle.trace_model.specs.declared.tapes.Segment.{Segment}
use Rattle.trace_reduce.specs.declared.limited_tape.LimitedTape.{LimitedTape}

-- the segments so far: all are held while they are light enough, and none after that
pub record IsSoFar (tape : LimitedTape) (segments : List Segment) : Type 0 where
  pub weighed : tape.weight ≡ min (sum_by segment_weight segments) (2 ^ 64 - 1)
  pub held : tape.weight ≤ tape.most → tape.segments.items ≡ segments
  pub let_go : tape.most < tape.weight → tape.segments.items ≡ []
