-- Plain readers of logs and tapes, beside their spellings.
use Rattle.std.specs.Prelude.{ℕ, ◌+◌, List, [], ◌∷◌, length, Option, Some, None, cond, nat_eq, option_and_then}
use Rattle.leb_bytes.specs.Unsigned.{first_u32, u32_bytes}
use Rattle.base.specs.declared.marks.TheConstants.{TYPE_I32, TYPE_I64, TYPE_F32, TYPE_F64}
use Rattle.wasm_syntax.specs.Encoding.Combinators.{Reader, always, map_read, first_then, first_exactly, by_mark, first_items, Rows, row_at}
use Rattle.wasm_syntax.specs.Encoding.Readers.{first_raw, first_f32, first_f64}
use Rattle.wasm_syntax.specs.declared.values.ValType.{ValType}
use Rattle.wasm_syntax.specs.declared.values.ValType.TheVariants.{I32, I64, F32, F64}
use Rattle.wasm_syntax.specs.declared.values.Val.{Val}
use Rattle.base.specs.declared.outcomes.Outcome.{Outcome}
use Rattle.base.specs.declared.outcomes.Outcome.TheVariants.{Ended, Trapped, HostTrapped}
use Rattle.trace_model.specs.declared.events.Event.{Event}
use Rattle.trace_model.specs.declared.events.Event.TheVariants.{Enter, Leave, Pre, Post, Grow, Seen, Table, Bytes, Entry, Global}
use Rattle.trace_model.specs.declared.tapes.Effect.{Effect}
use Rattle.trace_model.specs.declared.tapes.Effect.TheVariants as changes
use Rattle.trace_model.specs.declared.tapes.Origin.{Origin}
use Rattle.trace_model.specs.declared.tapes.Origin.TheVariants.{Begin, Import, Back}
use Rattle.trace_model.specs.declared.tapes.Next.{Next}
use Rattle.trace_model.specs.declared.tapes.Next.TheVariants.{Call, Return, End, Trap}
use Rattle.trace_model.specs.declared.tapes.Segment.{Segment}
use Rattle.trace_bytes.specs.declared.tags.TheConstants.{LOG_MAGIC, VERSION_1, VERSION_2, DIGEST_BYTES, OPTION_NONE, OPTION_SOME, TAG_ENTER, TAG_LEAVE, TAG_PRE, TAG_POST, TAG_GROW, TAG_SEEN, TAG_BYTES, TAG_ENTRY, TAG_GLOBAL, TAG_TABLE, TAG_ENDED, TAG_TRAPPED, TAG_HOST_TRAPPED, TAG_BEGIN, TAG_IMPORT, TAG_BACK, TAG_CALL, TAG_RETURN, TAG_END, TAG_TRAP, TAG_CLOSE}

-- ---- numbers, values, options

-- a number, if its encoding is the shortest
abbrev pub if_shortest : (all : ℕ) → ℕ × List ℕ → Option (ℕ × List ℕ)
if_shortest all first = cond (nat_eq all (length (u32_bytes first.0) + length first.1)) (Some first) None

unfoldable pub first_number : Reader ℕ
first_number bytes = option_and_then (if_shortest (length bytes)) (first_u32 bytes)

abbrev pub value_of : ValType → ℕ → Val
value_of ty bits = record { ty = ty; bits = bits }

abbrev pub val_rows : Rows Val
val_rows =
    (TYPE_I32, map_read (value_of I32) first_f32) ∷ (TYPE_I64, map_read (value_of I64) first_f64)
    ∷ (TYPE_F32, map_read (value_of F32) first_f32) ∷ (TYPE_F64, map_read (value_of F64) first_f64) ∷ []

unfoldable pub first_val : Reader Val
first_val bytes = by_mark (row_at val_rows) bytes

abbrev pub option_rows : {A : Type 0} → Reader A → Rows (Option A)
option_rows read = (OPTION_NONE, always None) ∷ (OPTION_SOME, map_read Some read) ∷ []

abbrev pub first_option : {A : Type 0} → Reader A → Reader (Option A)
first_option read bytes = by_mark (row_at (option_rows read)) bytes

-- the items after a number that counts them
abbrev pub first_counted : {A : Type 0} → Reader A → Reader (List A)
first_counted read bytes = option_and_then (λ count. first_items read count.0 count.1) (first_number bytes)

unfoldable pub first_args : Reader (List Val)
first_args bytes = first_counted first_val bytes

-- the bytes after a number that counts them, which is at least one
abbrev pub first_some : (count : ℕ) → Reader (List ℕ)
first_some count bytes = cond (nat_eq count 0) None (first_raw count bytes)

unfoldable pub first_bytes : Reader (List ℕ)
first_bytes bytes = option_and_then (λ count. first_some count.0 count.1) (first_number bytes)

-- ---- logs

abbrev pub with_pair : {A B C : Type 0} → (A → B → C) → A × B → C
with_pair make pair = make pair.0 pair.1

-- a row that only the second version has
abbrev pub from_second : {A : Type 0} → (version : ℕ) → ℕ × Reader A → Rows A
from_second version row = cond (nat_eq version VERSION_2) (row ∷ []) []

abbrev pub event_rows : (version : ℕ) → Rows Event
event_rows version =
    (TAG_ENTER, map_read (with_pair Enter) (first_then first_number first_args))
    ∷ (TAG_LEAVE, map_read Leave first_number)
    ∷ (TAG_PRE, map_read Pre (first_option first_number))
    ∷ (TAG_POST, map_read Post (first_option first_val))
    ∷ (TAG_GROW, map_read Grow first_number)
    ∷ (TAG_SEEN, always Seen)
    ∷ (TAG_BYTES, map_read (with_pair Bytes) (first_then first_number first_bytes))
    ∷ (TAG_ENTRY, map_read (with_pair Entry) (first_then first_number (first_option first_number)))
    ∷ (TAG_GLOBAL, map_read (with_pair Global) (first_then first_number first_val))
    ∷ from_second version (TAG_TABLE, map_read Table first_number)

unfoldable pub first_event : (version : ℕ) → Reader Event
first_event version bytes = by_mark (row_at (event_rows version)) bytes

abbrev pub outcome_rows : Rows Outcome
outcome_rows = (TAG_ENDED, always Ended) ∷ (TAG_TRAPPED, always Trapped) ∷ (TAG_HOST_TRAPPED, always HostTrapped) ∷ []

unfoldable pub first_outcome : Reader Outcome
first_outcome bytes = by_mark (row_at outcome_rows) bytes

-- ---- tapes

abbrev pub effect_rows : (version : ℕ) → Rows Effect
effect_rows version =
    (TAG_GROW, map_read changes.Grow first_number)
    ∷ (TAG_BYTES, map_read (with_pair changes.Bytes) (first_then first_number first_bytes))
    ∷ (TAG_ENTRY, map_read (with_pair changes.Entry) (first_then first_number (first_option first_number)))
    ∷ (TAG_GLOBAL, map_read (with_pair changes.Global) (first_then first_number first_val))
    ∷ from_second version (TAG_TABLE, map_read changes.Table first_number)

unfoldable pub first_effect : (version : ℕ) → Reader Effect
first_effect version bytes = by_mark (row_at (effect_rows version)) bytes

abbrev pub origin_rows : Rows Origin
origin_rows = (TAG_BEGIN, always Begin) ∷ (TAG_IMPORT, map_read Import first_number) ∷ (TAG_BACK, always Back) ∷ []

unfoldable pub first_origin : Reader Origin
first_origin bytes = by_mark (row_at origin_rows) bytes

abbrev pub next_rows : Rows Next
next_rows =
    (TAG_CALL, map_read (with_pair Call) (first_then first_number first_args))
    ∷ (TAG_RETURN, map_read Return (first_option first_val))
    ∷ (TAG_END, always End) ∷ (TAG_TRAP, always Trap) ∷ []

unfoldable pub first_next : Reader Next
first_next bytes = by_mark (row_at next_rows) bytes

abbrev pub segment_of : Origin × (List Effect × Next) → Segment
segment_of parts = record { origin = parts.0; effects = parts.1.0; next = parts.1.1 }

unfoldable pub first_segment : (version : ℕ) → Reader Segment
first_segment version bytes =
    map_read segment_of (first_then first_origin (first_then (first_counted (first_effect version)) first_next)) bytes

-- ---- files

-- a version, if it is known
abbrev pub version_rows : Rows ℕ
version_rows = (VERSION_1, always VERSION_1) ∷ (VERSION_2, always VERSION_2) ∷ []

abbrev pub first_version : Reader ℕ
first_version bytes = by_mark (row_at version_rows) bytes

-- the start of a file: its version and its digest; the start of a log also has the number of imported functions
unfoldable pub first_header : (magic : List ℕ) → Reader (ℕ × List ℕ)
first_header magic bytes =
    map_read (λ parts. parts.1) (first_then (first_exactly magic) (first_then first_version (first_raw DIGEST_BYTES)))
    bytes

unfoldable pub first_log_header : Reader ((ℕ × List ℕ) × ℕ)
first_log_header bytes = first_then (first_header LOG_MAGIC) first_number bytes

-- the end of a tape's file
abbrev pub first_close : Reader (Unit {0})
first_close bytes = first_exactly (TAG_CLOSE ∷ []) bytes

-- the fifth byte, if the first four are right and it is not a known version
abbrev pub version_at : List ℕ → Option ℕ
version_at [] = None
version_at (found ∷ rest) = cond (nat_eq found VERSION_1) None (cond (nat_eq found VERSION_2) None (Some found))

abbrev pub other_version : (magic : List ℕ) → List ℕ → Option ℕ
other_version magic bytes = option_and_then (λ after. version_at after.1) (first_exactly magic bytes)
