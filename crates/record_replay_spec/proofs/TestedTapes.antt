-- A tape that passes the test is that of the log: at places that do not occur, nothing is found or changed.
use Rattle.std.proofs.Common.{◌≡◌, ℕ, List, [], ◌∷◌, Option, None, true, false, refl, ap, ◌∙◌}
use Rattle.std.specs.Option.{option_or}
use Rattle.trace_model.specs.declared.tapes.Effect.{Effect}
use Rattle.trace_model.specs.declared.tapes.Segment.{Segment}
use Rattle.record_replay_spec.specs.Needed.{effect_byte, effect_entry, effect_global}
use Rattle.record_replay_spec.specs.NeededTest.{all_of, effect_addresses, entries_set, globals_set}
use Rattle.record_replay_spec.proofs.Tested.{is_among, not_among, byte_unchanged, entry_unchanged, global_unchanged, just_by_test, front_by_test}
use Rattle.record_replay_spec.specs.LogTapes.{Mark, Begins, Ends, window_finds, first_some, first_given, log_marks, AreFirstFinds, AreLogSegments}
use Rattle.record_replay_spec.specs.LogTapeTest.{are_first_finds, are_log_segments}
use Rattle.record_replay_spec.specs.HookLaws.{TestedTapesAreOfLogs}

first_none : {X : Type 0} (part : Effect → Option X) (places : Effect → List ℕ) (at : ℕ)
    → ((effect : Effect) → is_among at (places effect) ≡ false → part effect ≡ None)
    → (effects : List Effect) → is_among at (all_of places effects) ≡ false → first_some part effects ≡ None
first_none part places at each [] h = refl
first_none part places at each (effect ∷ later) h =
    let p = not_among at (places effect) (all_of places later) h in
    ap (λ r. option_or r (first_some part later)) (each effect p.0) ∙ first_none part places at each later p.1

finds_changed : (finds changes : List Effect) → are_first_finds finds changes ≡ true → AreFirstFinds finds changes
finds_changed finds =
    just_by_test (first_given finds) (all_of effect_addresses finds) (all_of entries_set finds) (all_of globals_set finds)
    (record {
      byte = λ at. first_none (effect_byte at) effect_addresses at (byte_unchanged at) finds;
      entry = λ at. first_none (effect_entry at) entries_set at (entry_unchanged at) finds;
      global = λ at. first_none (effect_global at) globals_set at (global_unchanged at) finds;
    })

tested_segments : (marks : List Mark) (segments : List Segment) → are_log_segments marks segments ≡ true
    → AreLogSegments marks segments
tested_segments [] [] h = tt
tested_segments [] (segment ∷ segments) h = cc
tested_segments (Begins origin ∷ Ends next ∷ later) (segment ∷ segments) h =
    let front =
    front_by_test segment origin next (are_first_finds (window_finds later) segment.effects)
    (are_log_segments later segments) (finds_changed (window_finds later) segment.effects)
    (tested_segments later segments) h
    in
    (record { begins = front.0; leaves = front.1; changes = front.2 }, front.3)
tested_segments (Begins origin ∷ later) segments h = cc
tested_segments (mark ∷ later) segments h = tested_segments later segments h

pub tested_tapes_are_of_logs : TestedTapesAreOfLogs
tested_tapes_are_of_logs log tape h = tested_segments (log_marks log) tape.segments h
