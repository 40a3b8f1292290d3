-- The segments of marks that fit have an encoding, and weigh no more than the marks.
use Rattle.std.proofs.Common.{ℕ, ◌+◌, ◌≤◌, ◌<◌, ◌^◌, List, [], ◌∷◌, ◌++◌, length, sym, ap, subst, arith}
use Rattle.std.specs.Prelude.{flat_map, sum_by}
use Rattle.std.specs.List.{AllByRecursion}
use Rattle.std.proofs.lemmas.List.{length-append}
use Rattle.std.proofs.lemmas.List.Sums.{sum_by-cons}
use Rattle.trace_model.specs.declared.tapes.Next.{Next}
use Rattle.trace_model.specs.declared.tapes.Origin.{Origin}
use Rattle.trace_model.specs.declared.tapes.Segment.{Segment}
use Rattle.trace_model.specs.declared.events.Log.{Log}
use Rattle.trace_model.specs.Weight.{effect_weight, next_weight, segment_weight}
use Rattle.trace_bytes.specs.declared.tags.TheConstants.{VERSION_2}
use Rattle.trace_bytes.specs.Spelling.{event_bytes, log_bytes, log_header_bytes, outcome_byte}
use Rattle.trace_bytes.specs.Spelled.{FitSegments, FitsEffect, FitsSegment}
use Rattle.record_replay_spec.specs.LogTapes.{Mark, Begins, Ends, Finds, window_finds, IsLogSegment, AreLogSegments, log_marks}
use Rattle.log_tape_laws.specs.WrittenTapes.{LogTapesAreWritable}
use Rattle.log_tape_laws.proofs.Finds.{no_heavier}
use Rattle.log_tape_laws.proofs.FittingEffects.{effects_fit}
use Rattle.log_tape_laws.proofs.Marks.{FitsMark, mark_weight, log_within}

finds_fit : (marks : List Mark) → AllByRecursion FitsMark marks
    → AllByRecursion (FitsEffect VERSION_2) (window_finds marks)
finds_fit [] all = tt
finds_fit (Finds effect ∷ later) all = (all.0, finds_fit later all.1)
finds_fit (Begins origin ∷ later) all = tt
finds_fit (Ends next ∷ later) all = tt

finds_within : (marks : List Mark) → sum_by effect_weight (window_finds marks) ≤ sum_by mark_weight marks
finds_within [] = omega arith
finds_within (Finds effect ∷ later) =
    omega (
      arith,
      sum_by-cons effect_weight effect (window_finds later),
      sum_by-cons mark_weight (Finds effect) later,
      finds_within later,
    )
finds_within (Begins origin ∷ later) = omega arith
finds_within (Ends next ∷ later) = omega arith

segment_fits : (origin : Origin) (next : Next) (later : List Mark) (segment : Segment)
    → FitsMark (Begins origin) → FitsMark (Ends next) → AllByRecursion FitsMark later
    → sum_by mark_weight later < 2 ^ 32 → IsLogSegment origin next (window_finds later) segment
    → FitsSegment VERSION_2 segment
segment_fits origin next later segment begins leaves all few is =
    let effects =
    effects_fit (window_finds later) segment.effects is.changes (finds_fit later all)
    (omega (arith, few, finds_within later))
    in
    record {
      origin = subst (λ o. FitsMark (Begins o)) (sym is.begins) begins;
      few = effects.0;
      effects = effects.1;
      next = subst (λ n. FitsMark (Ends n)) (sym is.leaves) leaves;
    }

segments_fit : (marks : List Mark) (segments : List Segment) → AllByRecursion FitsMark marks
    → sum_by mark_weight marks < 2 ^ 32 → AreLogSegments marks segments → FitSegments VERSION_2 segments
segments_fit [] [] all few are = tt
segments_fit [] (segment ∷ segments) all few are = absurd are
segments_fit (Begins origin ∷ Ends next ∷ later) (segment ∷ segments) all few are =
    let less : sum_by mark_weight later < 2 ^ 32 =
    omega (
      arith,
      few,
      sum_by-cons mark_weight (Begins origin) (Ends next ∷ later),
      sum_by-cons mark_weight (Ends next) later,
    )
    in (
      segment_fits origin next later segment all.0 all.1.0 all.1.1 less are.0,
      segments_fit later segments all.1.1 less are.1,
    )
segments_fit (Begins origin ∷ Ends next ∷ later) [] all few are = absurd are
segments_fit (Begins origin ∷ later) segments all few are = absurd are
segments_fit (mark ∷ later) segments all few are =
    segments_fit later segments all.1 (omega (arith, few, sum_by-cons mark_weight mark later)) are

-- the finds of a window at the front are in no segment
segments_within : (marks : List Mark) (segments : List Segment) → AreLogSegments marks segments
    → sum_by segment_weight segments + sum_by effect_weight (window_finds marks) ≤ sum_by mark_weight marks
segments_within [] [] are = omega arith
segments_within [] (segment ∷ segments) are = absurd are
segments_within (Begins origin ∷ Ends next ∷ later) (segment ∷ segments) are =
    omega (
      arith,
      sum_by-cons segment_weight segment segments,
      sum_by-cons mark_weight (Begins origin) (Ends next ∷ later),
      sum_by-cons mark_weight (Ends next) later,
      no_heavier (window_finds later) segment.effects are.0.changes,
      ap next_weight are.0.leaves,
      segments_within later segments are.1,
    )
segments_within (Begins origin ∷ Ends next ∷ later) [] are = absurd are
segments_within (Begins origin ∷ []) segments are = absurd are
segments_within (Begins origin ∷ Begins other ∷ later) segments are = absurd are
segments_within (Begins origin ∷ Finds effect ∷ later) segments are = absurd are
segments_within (Ends next ∷ later) segments are =
    omega (arith, sum_by-cons mark_weight (Ends next) later, segments_within later segments are)
segments_within (Finds effect ∷ later) segments are =
    omega (
      arith,
      sum_by-cons mark_weight (Finds effect) later,
      sum_by-cons effect_weight effect (window_finds later),
      segments_within later segments are,
    )

-- the events and the outcome of a log are a part of its encoding
events_within : (version : ℕ) (digest : List ℕ) (log : Log)
    → length (flat_map event_bytes log.events) + 1 ≤ length (log_bytes version digest log)
unfolding log_bytes
events_within version digest log =
    omega (
      arith,
      length-append (log_header_bytes version digest log.imports)
          (flat_map event_bytes log.events ++ outcome_byte log.outcome ∷ []),
      length-append (flat_map event_bytes log.events) (outcome_byte log.outcome ∷ []),
    )

pub log_tapes_are_writable : LogTapesAreWritable
log_tapes_are_writable version bytes digest log tape is few of_log =
    let within = log_within version log is.events in
    let part = events_within version digest log in
    let long = ap length is.spelled in
    record {
      segments =
          segments_fit (log_marks log) tape.segments within.fit (omega (arith, within.light, part, long, few)) of_log;
      light = omega (arith, within.light, part, long, segments_within (log_marks log) tape.segments of_log);
    }
