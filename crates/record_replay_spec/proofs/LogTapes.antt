-- A log has at most one tape.
use Rattle.std.proofs.Common.{◌≡◌, List, [], ◌∷◌, sym, ◌∙◌, refl}
use Rattle.trace_model.specs.declared.tapes.Segment.{Segment}
use Rattle.record_replay_spec.proofs.OneList.{just_one}
use Rattle.record_replay_spec.specs.LogTapes.{Mark, Begins, Ends, window_finds, first_given, log_marks, AreLogSegments}
use Rattle.record_replay_spec.specs.HookLaws.{LogTapeIsOne}

segments_same : (marks : List Mark) (segments others : List Segment)
    → AreLogSegments marks segments → AreLogSegments marks others → segments ≡ others
segments_same [] [] [] a b = refl
segments_same [] [] (other ∷ others) a b = absurd b
segments_same [] (segment ∷ segments) others a b = absurd a
segments_same (Begins origin ∷ Ends next ∷ later) (segment ∷ segments) (other ∷ others) a b =
    let origins = a.0.begins ∙ sym b.0.begins in
    let nexts = a.0.leaves ∙ sym b.0.leaves in
    let changes = just_one (first_given (window_finds later)) segment.effects other.effects a.0.changes b.0.changes in
    let rest = segments_same later segments others a.1 b.1 in
    (λ i. record { origin = origins i; effects = changes i; next = nexts i } ∷ rest i)
segments_same (Begins origin ∷ Ends next ∷ later) [] others a b = absurd a
segments_same (Begins origin ∷ Ends next ∷ later) segments [] a b = absurd b
segments_same (Begins origin ∷ later) segments others a b = absurd a
segments_same (mark ∷ later) segments others a b = segments_same later segments others a b

pub log_tape_is_one : LogTapeIsOne
log_tape_is_one log tape other a b =
    let same = segments_same (log_marks log) tape.segments other.segments a b in
    (λ i. record { segments = same i })
