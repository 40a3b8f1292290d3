-- The lines that `show` prints of a log and of a tape.
use Rattle.std.specs.Prelude.{ℕ, List, [], ◌++◌, Option, Some, None, codes, flat_map}
use Rattle.wasm_syntax.specs.declared.values.Val.{Val}
use Rattle.trace_model.specs.declared.events.Event.{Event}
use Rattle.trace_model.specs.declared.events.Event.TheVariants.{Enter, Leave, Pre, Post, Grow, Seen, Table, Bytes, Entry, Global}
use Rattle.trace_model.specs.declared.events.Log.{Log}
use Rattle.trace_model.specs.declared.tapes.Effect.{Effect}
use Rattle.trace_model.specs.declared.tapes.Effect.TheVariants as changes
use Rattle.trace_model.specs.declared.tapes.Origin.{Origin}
use Rattle.trace_model.specs.declared.tapes.Origin.TheVariants.{Begin, Import, Back}
use Rattle.trace_model.specs.declared.tapes.Next.{Next}
use Rattle.trace_model.specs.declared.tapes.Next.TheVariants.{Call, Return, End, Trap}
use Rattle.trace_model.specs.declared.tapes.Segment.{Segment}
use Rattle.trace_model.specs.declared.tapes.Tape.{Tape}
use Rattle.history_spec.specs.Line.{hex_digits, line, number_text, outcome_text, value_text, values_text, with_space}

-- bytes in hexadecimal, two digits each
abbrev pub hex_text : List ℕ → List ℕ
hex_text bytes = flat_map (λ byte. hex_digits 2 byte) bytes

-- the text of a function, or ` none`; the text of a value, which is empty without a value
abbrev pub func_text : Option ℕ → List ℕ
func_text None = codes " none"
func_text (Some func) = number_text func

abbrev pub result_text : Option Val → List ℕ
result_text None = []
result_text (Some value) = with_space (value_text value)

-- the text of a change, in a log or in a tape
abbrev pub grow_text : (pages : ℕ) → List ℕ
grow_text pages = codes "grow" ++ number_text pages

abbrev pub table_text : (size : ℕ) → List ℕ
table_text size = codes "table" ++ number_text size

abbrev pub bytes_text : (addr : ℕ) → List ℕ → List ℕ
bytes_text addr bytes = codes "bytes" ++ (number_text addr ++ with_space (hex_text bytes))

abbrev pub entry_text : (index : ℕ) → Option ℕ → List ℕ
entry_text index func = codes "entry" ++ (number_text index ++ func_text func)

abbrev pub global_text : (global : ℕ) → Val → List ℕ
global_text global value = codes "global" ++ (number_text global ++ with_space (value_text value))

abbrev pub event_text : Event → List ℕ
event_text (Enter func args) = codes "enter" ++ (number_text func ++ values_text args)
event_text (Leave func) = codes "leave" ++ number_text func
event_text (Pre callee) = codes "pre" ++ func_text callee
event_text (Post result) = codes "post" ++ result_text result
event_text (Grow pages) = grow_text pages
event_text Seen = codes "seen"
event_text (Table size) = table_text size
event_text (Bytes addr bytes) = bytes_text addr bytes
event_text (Entry index func) = entry_text index func
event_text (Global global value) = global_text global value

-- the lines that `show` prints of a log: a line with its digest, one for each event, and one for the outcome
unfoldable pub log_text : (digest : List ℕ) → Log → List ℕ
log_text digest log =
    line (codes "log" ++ with_space (hex_text digest))
    ++ (flat_map (λ event. line (event_text event)) log.events ++ line (outcome_text log.outcome))

abbrev pub effect_text : Effect → List ℕ
effect_text (changes.Grow pages) = grow_text pages
effect_text (changes.Table size) = table_text size
effect_text (changes.Bytes addr bytes) = bytes_text addr bytes
effect_text (changes.Entry index func) = entry_text index func
effect_text (changes.Global global value) = global_text global value

abbrev pub origin_text : Origin → List ℕ
origin_text Begin = codes "segment begin"
origin_text (Import import) = codes "segment import" ++ number_text import
origin_text Back = codes "segment back"

abbrev pub next_text : Next → List ℕ
next_text (Call func args) = codes "call" ++ (number_text func ++ values_text args)
next_text (Return result) = codes "return" ++ result_text result
next_text End = codes "end"
next_text Trap = codes "trap"

abbrev pub segment_text : Segment → List ℕ
segment_text segment =
    line (origin_text segment.origin)
    ++ (flat_map (λ effect. line (effect_text effect)) segment.effects ++ line (next_text segment.next))

-- the lines that `show` prints of a tape: a line with its digest, the lines of each segment, and the line `close`
unfoldable pub tape_text : (digest : List ℕ) → Tape → List ℕ
tape_text digest tape =
    line (codes "tape" ++ with_space (hex_text digest))
    ++ (flat_map segment_text tape.segments ++ line (codes "close"))
