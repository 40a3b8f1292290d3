-- What the steps of reading a file return, in terms of the plain readers.
use Rattle.std.specs.Prelude.{◌≡◌, ℕ, ◌+◌, ◌≤◌, ◌⊎◌, List, [], length, drop, Option, Some, None, Result, Ok, Err}
use Rattle.wasm_syntax.specs.Encoding.Combinators.{Reader}
use Rattle.trace_model.specs.declared.events.Event.{Event}
use Rattle.trace_model.specs.declared.events.Log.{Log}
use Rattle.trace_model.specs.declared.tapes.Segment.{Segment}
use Rattle.trace_model.specs.declared.tapes.Tape.{Tape}
use Rattle.trace_bytes.specs.declared.tags.TheConstants.{LOG_MAGIC, TAPE_MAGIC, DIGEST_BYTES}
use Rattle.trace_format.specs.declared.files.FormatFault.{FormatFault}
use Rattle.trace_format.specs.declared.files.FormatFault.TheVariants.{Version, Bad, Memory}
use Rattle.trace_format.specs.Reading.{first_close, first_event, first_header, first_log_header, first_number, first_outcome, first_segment, other_version}
use Rattle.trace_format.specs.Files.{AreAllRead, IsBadAt, IsMore, IsNoEnd, IsWhole}

-- the length of a header in bytes
abbrev pub header_length : ℕ
header_length = 5 + DIGEST_BYTES

-- the bytes begin with a header
pub record IsHeaderThere (magic bytes : List ℕ) (header : ℕ × List ℕ) : Type 0 where
  pub of_version : other_version magic bytes ≡ None
  pub long : header_length ≤ length bytes
  pub header_read : first_header magic bytes ≡ Some (header, drop header_length bytes)

-- the bytes begin with no header
pub record IsNoHeader (magic bytes : List ℕ) (at : ℕ) : Type 0 where
  pub of_version : other_version magic bytes ≡ None
  pub none : first_header magic bytes ≡ None
  pub place : at ≡ 0

abbrev pub IsHeaderFault : (magic bytes : List ℕ) → FormatFault → Type 0
IsHeaderFault magic bytes (Version found) = other_version magic bytes ≡ Some found
IsHeaderFault magic bytes (Bad at) = IsNoHeader magic bytes at
IsHeaderFault magic bytes Memory = ⊥

-- the fault of a file's end, after all items
abbrev pub IsEndFault : {O : Type 0} → Reader O → (all left : List ℕ) → FormatFault → Type 0
IsEndFault last all left (Version found) = ⊥
IsEndFault last all left (Bad at) = IsNoEnd last all left at ⊎ IsMore last all left at
IsEndFault last all left Memory = ⊥

abbrev pub IsEndAnswer : {O : Type 0} → Reader O → (all left : List ℕ) → Result O FormatFault → Type 0
IsEndAnswer last all left (Ok «end») = last left ≡ Some («end», [])
IsEndAnswer last all left (Err fault) = IsEndFault last all left fault

-- the items from the start, and the end after them
pub record AreEnded {A O : Type 0} (read : Reader A) (last : Reader O) (start : List ℕ) (items : List A) («end» : O)
    : Type 0 where
  pub left : List ℕ
  pub items_read : AreAllRead read start items left
  pub end_read : last left ≡ Some («end», [])

-- the items from the start are followed by no end, or bytes follow the end
pub record AreCut {A O : Type 0} (read : Reader A) (last : Reader O) (all start : List ℕ) (at : ℕ) : Type 0 where
  pub items : List A
  pub left : List ℕ
  pub items_read : AreAllRead read start items left
  pub fault : IsNoEnd last all left at ⊎ IsMore last all left at

abbrev pub IsItemsFault : {A O : Type 0} → Reader A → Reader O → (all start : List ℕ) → FormatFault → Type 0
IsItemsFault read last all start (Version found) = ⊥
IsItemsFault read last all start (Bad at) = AreCut read last all start at
IsItemsFault read last all start Memory = Unit {0}

-- ---- whole files

abbrev pub IsFileAnswer : {C : Type 0} → (IsRead : C → Type 0) → (IsBad : ℕ → Type 0) → (other : Option ℕ)
    → Result C FormatFault → Type 0
IsFileAnswer IsRead IsBad other (Ok content) = IsRead content
IsFileAnswer IsRead IsBad other (Err (Version found)) = other ≡ Some found
IsFileAnswer IsRead IsBad other (Err (Bad at)) = (other ≡ None) × IsBad at
IsFileAnswer IsRead IsBad other (Err Memory) = Unit {0}

abbrev pub log_item : (ℕ × List ℕ) × ℕ → Reader Event
log_item header = first_event header.0.0

-- the bytes are read as a log, in some version
abbrev pub IsLogRead : (bytes : List ℕ) → List ℕ × Log → Type 0
IsLogRead bytes content =
    (version : ℕ)
    × IsWhole first_log_header log_item first_outcome bytes ((version, content.0), content.1.imports) content.1.events
    content.1.outcome

abbrev pub IsLogBad : (bytes : List ℕ) → (at : ℕ) → Type 0
IsLogBad bytes at = IsBadAt first_log_header log_item first_outcome bytes at

abbrev pub IsLogAnswer : (bytes : List ℕ) → Result (List ℕ × Log) FormatFault → Type 0
IsLogAnswer bytes answer = IsFileAnswer (IsLogRead bytes) (IsLogBad bytes) (other_version LOG_MAGIC bytes) answer

-- a log begins with a header and the number of imported functions, and its events begin at `start`
pub record IsLogStart (bytes : List ℕ) (version : ℕ) (digest : List ℕ) (imports : ℕ) (start : List ℕ) : Type 0 where
  pub header : IsHeaderThere LOG_MAGIC bytes (version, digest)
  pub number : first_number (drop header_length bytes) ≡ Some (imports, start)
  pub shorter : length start ≤ length bytes

-- the bytes do not begin as a log, or their version is not known
abbrev pub IsLogStartFault : List ℕ → FormatFault → Type 0
IsLogStartFault bytes (Version found) = other_version LOG_MAGIC bytes ≡ Some found
IsLogStartFault bytes (Bad at) = (other_version LOG_MAGIC bytes ≡ None) × (first_log_header bytes ≡ None) × (at ≡ 0)
IsLogStartFault bytes Memory = ⊥

abbrev pub tape_item : ℕ × List ℕ → Reader Segment
tape_item header = first_segment header.0

abbrev pub IsTapeRead : (bytes : List ℕ) → List ℕ × Tape → Type 0
IsTapeRead bytes content =
    (version : ℕ)
    × IsWhole (first_header TAPE_MAGIC) tape_item first_close bytes (version, content.0) content.1.segments tt

abbrev pub IsTapeBad : (bytes : List ℕ) → (at : ℕ) → Type 0
IsTapeBad bytes at = IsBadAt (first_header TAPE_MAGIC) tape_item first_close bytes at

abbrev pub IsTapeAnswer : (bytes : List ℕ) → Result (List ℕ × Tape) FormatFault → Type 0
IsTapeAnswer bytes answer = IsFileAnswer (IsTapeRead bytes) (IsTapeBad bytes) (other_version TAPE_MAGIC bytes) answer
