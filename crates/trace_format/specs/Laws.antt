-- Statements that hold of the files.
use Rattle.std.specs.Prelude.{◌≡◌, ℕ, ◌<◌, ◌^◌, List}
use Rattle.leb_bytes.specs.Encoding.{IsReadBy, IsShortest, IsWithin}
use Rattle.leb_bytes.specs.Unsigned.{EncodesU32, first_u32, u32_bytes}
use Rattle.trace_model.specs.declared.events.Log.{Log}
use Rattle.trace_model.specs.declared.tapes.Tape.{Tape}
use Rattle.trace_bytes.specs.declared.tags.TheConstants.{VERSION_2}
use Rattle.trace_bytes.specs.Spelling.{event_bytes, segment_bytes}
use Rattle.trace_bytes.specs.Spelled.{FitEvents, FitSegments, FitsEvent, FitsSegment}
use Rattle.trace_format.specs.Reading.{first_event, first_segment}
use Rattle.trace_format.specs.Faults.{IsLogOf, IsTapeOf}

-- what the files need of the encoding of numbers
pub record NumberLaws : Type 0 where
  pub read : IsReadBy EncodesU32 first_u32
  pub range : IsWithin EncodesU32 (λ n. n < 2 ^ 32) 5
  pub shortest : IsShortest EncodesU32 (λ n. n < 2 ^ 32) u32_bytes

-- the bytes are the encoding of a value that has one
pub record Spells {A : Type 0} (Fits : A → Type 0) (spell : A → List ℕ) (bytes : List ℕ) (x : A) : Type 0 where
  pub fits : Fits x
  pub spelled : bytes ≡ spell x

-- the readers of events and of segments read exactly their encodings
abbrev pub EventsAreRead : Type 0
EventsAreRead = (version : ℕ) → IsReadBy (Spells (FitsEvent version) event_bytes) (first_event version)

abbrev pub SegmentsAreRead : Type 0
SegmentsAreRead = (version : ℕ) → IsReadBy (Spells (FitsSegment version) segment_bytes) (first_segment version)

-- no bytes encode two logs; no bytes encode two tapes
abbrev pub LogsAreDistinguished : Type 0
LogsAreDistinguished = (bytes digest other : List ℕ) (log second : Log)
    → IsLogOf bytes digest log → IsLogOf bytes other second → (digest ≡ other) × (log ≡ second)

-- no bytes encode two tapes, or one tape with two digests
abbrev pub TapesAreDistinguished : Type 0
TapesAreDistinguished = (bytes digest other : List ℕ) (tape second : Tape)
    → IsTapeOf bytes digest tape → IsTapeOf bytes other second → (digest ≡ other) × (tape ≡ second)

-- a log, or a tape, that bytes encode in either version can be written
abbrev pub LogsAreWritable : Type 0
LogsAreWritable = (bytes digest : List ℕ) (log : Log) → IsLogOf bytes digest log → FitEvents VERSION_2 log.events

-- each segment of a tape that bytes encode in either version has an encoding in version 2
abbrev pub TapesAreWritable : Type 0
TapesAreWritable =
    (bytes digest : List ℕ) (tape : Tape) → IsTapeOf bytes digest tape → FitSegments VERSION_2 tape.segments
