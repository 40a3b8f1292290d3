-- How the rest of a tape grows while the tape is read from its end.
use Rattle.std.specs.Prelude.{ℕ, List, [], ◌∷◌, replicate}
use Rattle.trace_model.specs.declared.tapes.Segment.{Segment}
use Rattle.replay_module_spec.specs.Plans.{Left, with_origin, with_segment}

-- the rest at the end of a tape, for a module with this number of imported functions
abbrev pub nothing_left : (imports : ℕ) → Left
nothing_left imports = record { begun = []; calls = replicate imports [] }

-- a segment in front of the rest
abbrev pub left_before : Segment → Left → Left
left_before segment left =
    with_origin segment.origin (with_segment segment segment.next left.begun) left.calls

-- segments in front of the rest
abbrev pub left_from : List Segment → Left → Left
left_from [] left = left
left_from (segment ∷ later) left = left_before segment (left_from later left)
