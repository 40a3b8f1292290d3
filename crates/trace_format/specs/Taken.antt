-- What a sink takes of the log that bytes encode.
use Rattle.std.specs.Prelude.{◌≡◌, ◌⊎◌, ℕ, List, [], ◌∷◌, ◌++◌, Some, None}
use Rattle.wasm_syntax.specs.Encoding.Combinators.{Reader}
use Rattle.wasm_syntax.specs.Encoding.Encodable.{FitsU32}
use Rattle.base.specs.declared.outcomes.Outcome.{Outcome}
use Rattle.trace_model.specs.declared.events.Event.{Event}
use Rattle.trace_model.specs.declared.events.Log.{Log}
use Rattle.trace_bytes.specs.Spelling.{log_header_bytes}
use Rattle.trace_bytes.specs.Spelled.{IsDigest, IsVersion}
use Rattle.trace_format.specs.Answers.{AreEnded}
use Rattle.trace_format.specs.Faults.{IsLogOf}
use Rattle.trace_format.specs.Files.{AreRead}
use Rattle.trace_format.specs.Reading.{first_event, first_log_header, first_outcome}

-- the bytes begin with the header of a log, with this digest and this number of imported functions
pub record BeginsLog (bytes digest : List ℕ) (imports : ℕ) : Type 0 where
  pub version : ℕ
  pub is_version : IsVersion version
  pub is_digest : IsDigest digest
  pub few : FitsU32 imports
  pub rest : List ℕ
  pub begins : bytes ≡ log_header_bytes version digest imports ++ rest

-- a sink takes events one after another
abbrev pub TakesAll : {S : Type 0} → (S → Event → S → Type 0) → S → List Event → S → Type 0
TakesAll takes before [] now = before ≡ now
TakesAll {S} takes before (event ∷ later) now = (mid : S) × takes before event mid × TakesAll takes mid later now

-- the sink took all events of a log, and the outcome is the log's
pub record TakesLog {S : Type 0} (takes : S → Event → S → Type 0) (before now : S) (content : List ℕ × Log)
    (outcome : Outcome) : Type 0 where
  pub all : TakesAll takes before content.1.events now
  pub ended : outcome ≡ content.1.outcome

-- the sink took all events of a log that the bytes encode, and the outcome is the log's
pub record IsLogTaken {S : Type 0} (takes : S → Event → S → Type 0) (bytes : List ℕ) (before now : S)
    (outcome : Outcome) : Type 0 where
  pub digest : List ℕ
  pub log : Log
  pub spelled : IsLogOf bytes digest log
  pub taken : TakesLog takes before now (digest, log) outcome

-- ---- parts

-- the sink took the items that a reader reads one after another
pub record AreTaken {S : Type 0} (read : Reader Event) (takes : S → Event → S → Type 0) (bytes left : List ℕ)
    (before now : S) : Type 0 where
  pub items : List Event
  pub items_read : AreRead read bytes items left
  pub all : TakesAll takes before items now

-- the sink took the items that a reader reads one after another until it reads none
pub record AreAllTaken {S : Type 0} (read : Reader Event) (takes : S → Event → S → Type 0) (bytes left : List ℕ)
    (before now : S) : Type 0 where
  pub taken : AreTaken read takes bytes left before now
  pub ended : read left ≡ None

-- the sink took exactly the events that are whole, from the start on
pub record TakesEvents {S : Type 0} (version : ℕ) (start : List ℕ) (takes : S → Event → S → Type 0) (before now : S)
    : Type 0 where
  pub left : List ℕ
  pub all : AreAllTaken (first_event version) takes start left before now

-- the sink took exactly the whole events of a log's file; nothing, if the file does not begin with the header of a log
abbrev pub TakesWhole : {S : Type 0} → (bytes : List ℕ) → (takes : S → Event → S → Type 0) → (before now : S) → Type 0
TakesWhole bytes takes before now =
    ((first_log_header bytes ≡ None) × (now ≡ before))
    ⊎ ((header : (ℕ × List ℕ) × ℕ) × (start : List ℕ) × (first_log_header bytes ≡ Some (header, start))
    × TakesEvents header.0.0 start takes before now)

-- the sink took the events that begin at the start, and the outcome follows them
pub record AreTakenToEnd {S : Type 0} (version : ℕ) (start : List ℕ) (takes : S → Event → S → Type 0)
    (before now : S) (outcome : Outcome) : Type 0 where
  pub events : List Event
  pub ended : AreEnded (first_event version) first_outcome start events outcome
  pub all : TakesAll takes before events now
