-- Whether segments are those of a log, as a computable test: it looks only at the addresses and indices that occur.
use Rattle.std.specs.Prelude.{List, [], ◌∷◌, Bool, true, false, ◌&&◌}
use Rattle.trace_model.specs.declared.tapes.Effect.{Effect}
use Rattle.trace_model.specs.declared.tapes.Segment.{Segment}
use Rattle.trace_model.specs.declared.tapes.Tape.{Tape}
use Rattle.trace_model.specs.declared.events.Log.{Log}
use Rattle.record_replay_spec.specs.Alike.{same_origin, same_next}
use Rattle.record_replay_spec.specs.NeededTest.{all_of, effect_addresses, entries_set, globals_set, give_just}
use Rattle.record_replay_spec.specs.LogTapes.{Mark, Begins, Ends, log_marks, window_finds, first_given}

-- effects give exactly what is found first
abbrev pub are_first_finds : (finds changes : List Effect) → Bool
are_first_finds finds changes =
    give_just (first_given finds) (all_of effect_addresses finds) (all_of entries_set finds) (all_of globals_set finds)
    changes

-- the segments are those of all activities
abbrev pub are_log_segments : List Mark → List Segment → Bool
are_log_segments [] [] = true
are_log_segments [] (segment ∷ segments) = false
are_log_segments (Begins origin ∷ Ends next ∷ later) (segment ∷ segments) =
    same_origin segment.origin origin
    && same_next segment.next next
    && are_first_finds (window_finds later) segment.effects
    && are_log_segments later segments
are_log_segments (Begins origin ∷ later) segments = false
are_log_segments (mark ∷ later) segments = are_log_segments later segments

-- a tape is that of a log
abbrev pub is_log_tape : Log → Tape → Bool
is_log_tape log tape = are_log_segments (log_marks log) tape.segments
