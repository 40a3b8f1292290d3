-- The bytes of logs and tapes. Each number has its shortest encoding, so a value has one encoding in a version.
use Rattle.std.specs.Prelude.{ℕ, List, [], ◌∷◌, ◌++◌, flat_map, Option, Some, None}
use Rattle.std.specs.Int.{w32, w64, to_le_bytes}
use Rattle.leb_bytes.specs.Unsigned.{u32_bytes}
use Rattle.wasm_syntax.specs.Alike.{type_byte}
use Rattle.wasm_syntax.specs.Encoding.Shortest.{sized_bytes, vector_bytes}
use Rattle.wasm_syntax.specs.declared.values.ValType.{ValType}
use Rattle.wasm_syntax.specs.declared.values.ValType.TheVariants.{I32, I64, F32, F64, FuncRef}
use Rattle.wasm_syntax.specs.declared.values.Val.{Val}
use Rattle.base.specs.declared.outcomes.Outcome.{Outcome}
use Rattle.base.specs.declared.outcomes.Outcome.TheVariants.{Ended, Trapped, HostTrapped}
use Rattle.trace_model.specs.declared.events.Event.{Event}
use Rattle.trace_model.specs.declared.events.Event.TheVariants.{Enter, Leave, Pre, Post, Grow, Seen, Table, Bytes, Entry, Global}
use Rattle.trace_model.specs.declared.events.Log.{Log}
use Rattle.trace_model.specs.declared.tapes.Effect.{Effect}
use Rattle.trace_model.specs.declared.tapes.Effect.TheVariants as changes
use Rattle.trace_model.specs.declared.tapes.Origin.{Origin}
use Rattle.trace_model.specs.declared.tapes.Origin.TheVariants.{Begin, Import, Back}
use Rattle.trace_model.specs.declared.tapes.Next.{Next}
use Rattle.trace_model.specs.declared.tapes.Next.TheVariants.{Call, Return, End, Trap}
use Rattle.trace_model.specs.declared.tapes.Segment.{Segment}
use Rattle.trace_model.specs.declared.tapes.Tape.{Tape}
use Rattle.trace_bytes.specs.declared.tags.TheConstants.{LOG_MAGIC, TAPE_MAGIC, OPTION_NONE, OPTION_SOME, TAG_ENTER, TAG_LEAVE, TAG_PRE, TAG_POST, TAG_GROW, TAG_SEEN, TAG_BYTES, TAG_ENTRY, TAG_GLOBAL, TAG_TABLE, TAG_ENDED, TAG_TRAPPED, TAG_HOST_TRAPPED, TAG_BEGIN, TAG_IMPORT, TAG_BACK, TAG_CALL, TAG_RETURN, TAG_END, TAG_TRAP, TAG_CLOSE}

-- ---- values, options

-- the bits of a value, the lowest byte first; references have no encoding
abbrev pub bits_bytes : ValType → ℕ → List ℕ
bits_bytes I32 bits = to_le_bytes w32 bits
bits_bytes I64 bits = to_le_bytes w64 bits
bits_bytes F32 bits = to_le_bytes w32 bits
bits_bytes F64 bits = to_le_bytes w64 bits
bits_bytes FuncRef bits = []

abbrev pub val_bytes : Val → List ℕ
val_bytes value = type_byte value.ty ∷ bits_bytes value.ty value.bits

abbrev pub option_bytes : {A : Type 0} → (A → List ℕ) → Option A → List ℕ
option_bytes spell None = OPTION_NONE ∷ []
option_bytes spell (Some x) = OPTION_SOME ∷ spell x

-- a function with its arguments
abbrev pub call_bytes : (func : ℕ) → List Val → List ℕ
call_bytes func args = u32_bytes func ++ vector_bytes val_bytes args

-- ---- what the host changed, or what the module observed of it

abbrev pub entry_bytes : (index : ℕ) → Option ℕ → List ℕ
entry_bytes index func = TAG_ENTRY ∷ (u32_bytes index ++ option_bytes u32_bytes func)

abbrev pub bytes_bytes : (addr : ℕ) → List ℕ → List ℕ
bytes_bytes addr bytes = TAG_BYTES ∷ (u32_bytes addr ++ sized_bytes bytes)

abbrev pub global_bytes : (global : ℕ) → Val → List ℕ
global_bytes global value = TAG_GLOBAL ∷ (u32_bytes global ++ val_bytes value)

-- ---- logs

unfoldable pub event_bytes : Event → List ℕ
event_bytes (Enter func args) = TAG_ENTER ∷ call_bytes func args
event_bytes (Leave func) = TAG_LEAVE ∷ u32_bytes func
event_bytes (Pre callee) = TAG_PRE ∷ option_bytes u32_bytes callee
event_bytes (Post result) = TAG_POST ∷ option_bytes val_bytes result
event_bytes (Grow pages) = TAG_GROW ∷ u32_bytes pages
event_bytes Seen = TAG_SEEN ∷ []
event_bytes (Table size) = TAG_TABLE ∷ u32_bytes size
event_bytes (Bytes addr bytes) = bytes_bytes addr bytes
event_bytes (Entry index func) = entry_bytes index func
event_bytes (Global global value) = global_bytes global value

abbrev pub outcome_byte : Outcome → ℕ
outcome_byte Ended = TAG_ENDED
outcome_byte Trapped = TAG_TRAPPED
outcome_byte HostTrapped = TAG_HOST_TRAPPED

-- the start of every file; the start of a log's file
abbrev pub header_bytes : (magic : List ℕ) (version : ℕ) (digest : List ℕ) → List ℕ
header_bytes magic version digest = magic ++ (version ∷ digest)

abbrev pub log_header_bytes : (version : ℕ) (digest : List ℕ) (imports : ℕ) → List ℕ
log_header_bytes version digest imports = header_bytes LOG_MAGIC version digest ++ u32_bytes imports

unfoldable pub log_bytes : (version : ℕ) (digest : List ℕ) → Log → List ℕ
log_bytes version digest log =
    log_header_bytes version digest log.imports ++ (flat_map event_bytes log.events ++ outcome_byte log.outcome ∷ [])

-- ---- tapes

unfoldable pub effect_bytes : Effect → List ℕ
effect_bytes (changes.Grow pages) = TAG_GROW ∷ u32_bytes pages
effect_bytes (changes.Table size) = TAG_TABLE ∷ u32_bytes size
effect_bytes (changes.Bytes addr bytes) = bytes_bytes addr bytes
effect_bytes (changes.Entry index func) = entry_bytes index func
effect_bytes (changes.Global global value) = global_bytes global value

abbrev pub origin_bytes : Origin → List ℕ
origin_bytes Begin = TAG_BEGIN ∷ []
origin_bytes (Import import) = TAG_IMPORT ∷ u32_bytes import
origin_bytes Back = TAG_BACK ∷ []

abbrev pub next_bytes : Next → List ℕ
next_bytes (Call func args) = TAG_CALL ∷ call_bytes func args
next_bytes (Return result) = TAG_RETURN ∷ option_bytes val_bytes result
next_bytes End = TAG_END ∷ []
next_bytes Trap = TAG_TRAP ∷ []

unfoldable pub segment_bytes : Segment → List ℕ
segment_bytes segment =
    origin_bytes segment.origin ++ (vector_bytes effect_bytes segment.effects ++ next_bytes segment.next)

unfoldable pub tape_bytes : (version : ℕ) (digest : List ℕ) → Tape → List ℕ
tape_bytes version digest tape =
    header_bytes TAPE_MAGIC version digest ++ (flat_map segment_bytes tape.segments ++ TAG_CLOSE ∷ [])
