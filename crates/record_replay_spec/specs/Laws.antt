-- Laws of the definitions of needed tapes.
use Rattle.std.specs.Prelude.{◌≡◌, ℕ, List, [], true}
use Rattle.trace_model.specs.declared.tapes.Segment.{Segment}
use Rattle.history_spec.specs.Store.{Store}
use Rattle.history_spec.specs.Step.{Program, StepResult}
use Rattle.record_replay_spec.specs.Observations.{Observation}
use Rattle.record_replay_spec.specs.Known.{Known, known_byte, known_entry, known_global, known_pages, known_entries, known_after_all}
use Rattle.record_replay_spec.specs.Needed.{AreNeededSegments, IsNeededTape}
use Rattle.record_replay_spec.specs.Kept.{AreKeptSegments}
use Rattle.record_replay_spec.specs.NeededTest.{are_needed_segments}

-- what is known is what the search of all observations finds
pub record IsFound (opening : Known) (seen : List Observation) (known : Known) : Type 0 where
  pub byte : (at : ℕ) → known.byte at ≡ known_byte opening seen at
  pub entry : (at : ℕ) → known.entry at ≡ known_entry opening seen at
  pub global : (at : ℕ) → known.global at ≡ known_global opening seen at
  pub pages : known.pages ≡ known_pages opening.pages seen
  pub entries : known.entries ≡ known_entries opening.entries seen

-- what is known one observation at a time is what the search of all observations finds
abbrev pub KnownIsKept : Type 0
KnownIsKept = (opening : Known) (seen : List Observation) → IsFound opening seen (known_after_all opening seen)

-- segments are needed if and only if they are so by what is known one observation at a time
abbrev pub NeededSegmentsAreKept : Type 0
NeededSegmentsAreKept =
    (opening : Known) (observations : List Observation) (segments : List Segment)
    → (AreNeededSegments opening [] observations segments → AreKeptSegments opening observations segments)
    × (AreKeptSegments opening observations segments → AreNeededSegments opening [] observations segments)

-- a run has at most one needed tape
abbrev pub NeededTapeIsOne : Type 0
NeededTapeIsOne =
    (program : Program) (initial : StepResult) (opened : Store) (segments others : List Segment)
    → IsNeededTape program initial opened segments → IsNeededTape program initial opened others → segments ≡ others

-- segments that pass the test are needed
abbrev pub TestedSegmentsAreNeeded : Type 0
TestedSegmentsAreNeeded =
    (opening : Known) (observations : List Observation) (segments : List Segment)
    → are_needed_segments opening observations segments ≡ true
    → AreNeededSegments opening [] observations segments
