-- The logs and tapes that have an encoding, and the bytes that encode them: the grammar of the files.
use Rattle.std.specs.Prelude.{◌≡◌, ℕ, ◌<◌, ◌^◌, ◌⊎◌, List, length, IfSome}
use Rattle.std.specs.List.{AllByRecursion}
use Rattle.wasm_syntax.specs.Encoding.Encodable.{FitsU32, FitsConst}
use Rattle.wasm_syntax.specs.declared.values.Val.{Val}
use Rattle.trace_model.specs.declared.events.Event.{Event}
use Rattle.trace_model.specs.declared.events.Event.TheVariants.{Enter, Leave, Pre, Post, Grow, Seen, Table, Bytes, Entry, Global}
use Rattle.trace_model.specs.declared.events.Log.{Log}
use Rattle.trace_model.specs.declared.tapes.Effect.{Effect}
use Rattle.trace_model.specs.declared.tapes.Effect.TheVariants as changes
use Rattle.trace_model.specs.declared.tapes.Origin.{Origin}
use Rattle.trace_model.specs.declared.tapes.Origin.TheVariants.{Begin, Import, Back}
use Rattle.trace_model.specs.declared.tapes.Next.{Next}
use Rattle.trace_model.specs.declared.tapes.Next.TheVariants.{Call, Return, End, Trap}
use Rattle.trace_model.specs.declared.tapes.Segment.{Segment}
use Rattle.trace_model.specs.declared.tapes.Tape.{Tape}
use Rattle.trace_bytes.specs.declared.tags.TheConstants.{VERSION_1, VERSION_2, DIGEST_BYTES}
use Rattle.trace_bytes.specs.Spelling.{log_bytes, tape_bytes}

-- ---- what has an encoding: numbers of 32 bits, values of number types with bits of their width, at least one
-- byte, fewer than 2^32 items; a table's size only in the second version

abbrev pub FitsVal : Val → Type 0
FitsVal value = FitsConst value.ty value.bits

abbrev pub FitVals : List Val → Type 0
FitVals values = (length values < 2 ^ 32) × AllByRecursion FitsVal values

pub record FitBytes (addr : ℕ) (bytes : List ℕ) : Type 0 where
  pub address : FitsU32 addr
  pub some : 0 < length bytes
  pub few : length bytes < 2 ^ 32

abbrev pub FitsEvent : (version : ℕ) → Event → Type 0
FitsEvent version (Enter func args) = FitsU32 func × FitVals args
FitsEvent version (Leave func) = FitsU32 func
FitsEvent version (Pre callee) = IfSome callee FitsU32
FitsEvent version (Post result) = IfSome result FitsVal
FitsEvent version (Grow pages) = FitsU32 pages
FitsEvent version Seen = Unit {0}
FitsEvent version (Table size) = (version ≡ VERSION_2) × FitsU32 size
FitsEvent version (Bytes addr bytes) = FitBytes addr bytes
FitsEvent version (Entry index func) = FitsU32 index × IfSome func FitsU32
FitsEvent version (Global global value) = FitsU32 global × FitsVal value

abbrev pub FitsEffect : (version : ℕ) → Effect → Type 0
FitsEffect version (changes.Grow pages) = FitsU32 pages
FitsEffect version (changes.Table size) = (version ≡ VERSION_2) × FitsU32 size
FitsEffect version (changes.Bytes addr bytes) = FitBytes addr bytes
FitsEffect version (changes.Entry index func) = FitsU32 index × IfSome func FitsU32
FitsEffect version (changes.Global global value) = FitsU32 global × FitsVal value

abbrev pub FitsOrigin : Origin → Type 0
FitsOrigin Begin = Unit {0}
FitsOrigin (Import import) = FitsU32 import
FitsOrigin Back = Unit {0}

abbrev pub FitsNext : Next → Type 0
FitsNext (Call func args) = FitsU32 func × FitVals args
FitsNext (Return result) = IfSome result FitsVal
FitsNext End = Unit {0}
FitsNext Trap = Unit {0}

pub record FitsSegment (version : ℕ) (segment : Segment) : Type 0 where
  pub origin : FitsOrigin segment.origin
  pub few : length segment.effects < 2 ^ 32
  pub effects : AllByRecursion (FitsEffect version) segment.effects
  pub next : FitsNext segment.next

-- each event of a list has an encoding in this version of the file format
abbrev pub FitEvents : (version : ℕ) → List Event → Type 0
FitEvents version = AllByRecursion (FitsEvent version)

-- each segment of a list has an encoding in this version of the file format
abbrev pub FitSegments : (version : ℕ) → List Segment → Type 0
FitSegments version = AllByRecursion (FitsSegment version)

-- ---- encodings

abbrev pub IsVersion : ℕ → Type 0
IsVersion version = (version ≡ VERSION_1) ⊎ (version ≡ VERSION_2)

abbrev pub IsDigest : List ℕ → Type 0
IsDigest digest = length digest ≡ DIGEST_BYTES

-- the bytes are the encoding, in this version, of the log with the digest; of the tape with the digest
pub record SpellsLog (version : ℕ) (bytes digest : List ℕ) (log : Log) : Type 0 where
  pub is_version : IsVersion version
  pub is_digest : IsDigest digest
  pub imports : FitsU32 log.imports
  pub events : FitEvents version log.events
  pub spelled : bytes ≡ log_bytes version digest log

-- the bytes are the encoding, in this version, of the tape with the digest
pub record SpellsTape (version : ℕ) (bytes digest : List ℕ) (tape : Tape) : Type 0 where
  pub is_version : IsVersion version
  pub is_digest : IsDigest digest
  pub segments : FitSegments version tape.segments
  pub spelled : bytes ≡ tape_bytes version digest tape
