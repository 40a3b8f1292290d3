-- The needed segments, with what is known computed one observation at a time.
use Rattle.std.specs.Prelude.{List, [], ◌∷◌}
use Rattle.trace_model.specs.declared.tapes.Segment.{Segment}
use Rattle.record_replay_spec.specs.Observations.{Observation, Begins, Ends}
use Rattle.record_replay_spec.specs.Known.{Known, known_after}
use Rattle.record_replay_spec.specs.Windows.{window}
use Rattle.record_replay_spec.specs.Needed.{IsNeededSegment}

-- the needed segments of all activities, in order; for each, what is known is computed from the observations before it
abbrev pub AreKeptSegments : Known → List Observation → List Segment → Type 0
AreKeptSegments known [] [] = Unit {0}
AreKeptSegments known [] (segment ∷ segments) = ⊥
AreKeptSegments known (Begins origin ∷ Ends next ∷ later) (segment ∷ segments) =
    IsNeededSegment known origin next (window later) segment × AreKeptSegments known later segments
AreKeptSegments known (Begins origin ∷ later) segments = ⊥
AreKeptSegments known (o ∷ later) segments = AreKeptSegments (known_after known o) later segments
