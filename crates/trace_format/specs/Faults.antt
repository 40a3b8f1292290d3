-- Why a file is refused.
use Rattle.std.specs.Prelude.{◌≡◌, ℕ, ◌+◌, ◌≤◌, ◌⊎◌, List, [], ◌∷◌, ◌++◌, length, flat_map, Option, Some, None}
use Rattle.std.specs.List.{AllByRecursion}
use Rattle.wasm_syntax.specs.Encoding.Encodable.{FitsU32}
use Rattle.base.specs.declared.outcomes.Outcome.{Outcome}
use Rattle.trace_model.specs.declared.events.Log.{Log}
use Rattle.trace_model.specs.declared.tapes.Tape.{Tape}
use Rattle.trace_bytes.specs.declared.tags.TheConstants.{LOG_MAGIC, TAPE_MAGIC, TAG_CLOSE}
use Rattle.trace_bytes.specs.Spelling.{event_bytes, header_bytes, log_header_bytes, outcome_byte, segment_bytes}
use Rattle.trace_bytes.specs.Spelled.{FitsEvent, FitsSegment, IsDigest, IsVersion, SpellsLog, SpellsTape}
use Rattle.trace_format.specs.declared.files.FormatFault.{FormatFault}
use Rattle.trace_format.specs.declared.files.FormatFault.TheVariants.{Version, Bad, Memory}

-- the bytes encode a log with the digest, in some version; they encode a tape
abbrev pub IsLogOf : (bytes digest : List ℕ) → Log → Type 0
IsLogOf bytes digest log = (version : ℕ) × SpellsLog version bytes digest log

abbrev pub IsTapeOf : (bytes digest : List ℕ) → Tape → Type 0
IsTapeOf bytes digest tape = (version : ℕ) × SpellsTape version bytes digest tape

-- the first four bytes are right, and the fifth, `found`, is not a known version
pub record IsOtherVersion (magic bytes : List ℕ) (found : ℕ) : Type 0 where
  pub rest : List ℕ
  pub begins : bytes ≡ magic ++ found ∷ rest
  pub other : IsVersion found → ⊥

-- ---- prefixes

-- the encoding of an optional part, empty if there is none
abbrev pub perhaps : {A : Type 0} → (A → List ℕ) → Option A → List ℕ
perhaps spell None = []
perhaps spell (Some x) = spell x

-- a version and a digest are a header; a log's header also has the number of imported functions
abbrev pub IsHeader : ℕ × List ℕ → Type 0
IsHeader header = IsVersion header.0 × IsDigest header.1

abbrev pub IsLogHeader : (ℕ × List ℕ) × ℕ → Type 0
IsLogHeader header = IsHeader header.0 × FitsU32 header.1

-- a prefix of this length is a header and whole items, and perhaps an end
pub record IsFileFront {H A O : Type 0} (FitsHeader : H → Type 0) (spell_header : H → List ℕ) (Fits : H → A → Type 0)
    (spell : A → List ℕ) (spell_end : O → List ℕ) (bytes : List ℕ) (count : ℕ) : Type 0 where
  pub header : H
  pub items : List A
  pub close : Option O
  pub rest : List ℕ
  pub fits : FitsHeader header
  pub fit : AllByRecursion (Fits header) items
  pub parts : bytes ≡ spell_header header ++ (flat_map spell items ++ (perhaps spell_end close ++ rest))
  pub counted : count + length rest ≡ length bytes

-- a prefix of a log: its header and whole events, and perhaps an outcome
abbrev pub IsLogFront : (bytes : List ℕ) → ℕ → Type 0
IsLogFront =
    IsFileFront IsLogHeader (λ h. log_header_bytes h.0.0 h.0.1 h.1) (λ h. FitsEvent h.0.0) event_bytes
    (λ (outcome : Outcome). outcome_byte outcome ∷ [])

-- a prefix of a tape: its header and whole segments, and perhaps the end
abbrev pub IsTapeFront : (bytes : List ℕ) → ℕ → Type 0
IsTapeFront =
    IsFileFront IsHeader (λ h. header_bytes TAPE_MAGIC h.0 h.1) (λ h. FitsSegment h.0) segment_bytes
    (λ (it : Unit {0}). TAG_CLOSE ∷ [])

-- the place of a fault: the length of the longest prefix of whole parts, or 0 if there is no whole header
abbrev pub IsFaultPlace : (IsFront : ℕ → Type 0) → ℕ → Type 0
IsFaultPlace IsFront at =
    (((count : ℕ) → IsFront count → ⊥) × (at ≡ 0)) ⊎ (IsFront at × ((count : ℕ) → IsFront count → count ≤ at))

-- ---- causes

-- A fault of version: the first four bytes are right and the fifth is not a known version. Any other fault: the
-- bytes encode nothing, and the place is that of the fault. Out of memory has no cause in the bytes.
abbrev pub IsFaultOf : {A : Type 0} → (magic : List ℕ) → (A → Type 0) → (ℕ → Type 0) → List ℕ → FormatFault → Type 0
IsFaultOf magic IsOf IsFront bytes (Version found) = IsOtherVersion magic bytes found
IsFaultOf {A} magic IsOf IsFront bytes (Bad at) =
    ((found : ℕ) → IsOtherVersion magic bytes found → ⊥) × ((content : A) → IsOf content → ⊥) × IsFaultPlace IsFront at
IsFaultOf magic IsOf IsFront bytes Memory = Unit {0}

-- why a log file is refused: its version is not known, or its bytes encode no log, with the place of the fault; out
-- of memory has no cause in the bytes
abbrev pub IsLogFault : List ℕ → FormatFault → Type 0
IsLogFault bytes fault =
    IsFaultOf LOG_MAGIC (λ (content : List ℕ × Log). IsLogOf bytes content.0 content.1) (IsLogFront bytes) bytes fault

abbrev pub IsTapeFault : List ℕ → FormatFault → Type 0
IsTapeFault bytes fault =
    IsFaultOf TAPE_MAGIC (λ (content : List ℕ × Tape). IsTapeOf bytes content.0 content.1) (IsTapeFront bytes) bytes
    fault
