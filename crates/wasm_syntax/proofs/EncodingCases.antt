-- Small encodings, good and bad, read by the definitions (Core 1.0, 5.2 to 5.5).
-- These are examples, which the check computes.
use Rattle.std.proofs.Common.{◌≡◌, ℕ, List, [], ◌∷◌, ◌++◌, Option, Some, None, refl}
use Rattle.std.specs.Str.{is_utf8, chars}
use Rattle.leb_bytes.specs.Unsigned.{first_u32}
use Rattle.leb_bytes.specs.Signed.{first_s32, first_s64, first_i32, first_i64}
use Rattle.wasm_syntax.specs.Encoding.Modules.{preamble}
use Rattle.wasm_syntax.specs.Encoding.Combinators.{whole}
use Rattle.wasm_syntax.specs.Encoding.Readers.{first_f32, first_f64, first_bytes, first_name, first_indices, first_val_type, first_block_type, first_func_type, first_limits, first_table_type, first_mutability, first_global_type, first_instr, first_instrs, first_expr, first_import_kind, first_import, first_global, first_export_kind, first_export, first_elem, first_data, first_run, first_locals, first_code}
use Rattle.wasm_syntax.specs.Encoding.ReadModules.{first_section, next_section, lawful_sections, read_sections, fault_place}
use Rattle.wasm_syntax.specs.declared.forms.Form.{Form}
use Rattle.wasm_syntax.specs.declared.forms.Form.TheVariants.{Core, Replay}
use Rattle.wasm_syntax.specs.declared.values.ValType.TheVariants.{I32, I64, F32}
use Rattle.wasm_syntax.specs.declared.signatures.Limits.{Limits}
use Rattle.wasm_syntax.specs.declared.instructions.Instr.{Instr}
use Rattle.wasm_syntax.specs.declared.instructions.Instr.TheVariants.{Nop, If, Else, End, CallIndirect, MemoryCopy, MemoryFill, Const, Numeric, RefNull, RefFunc, TableSet, TableGrow, TableSize}
use Rattle.wasm_syntax.specs.declared.modules.Run.{Run}
use Rattle.wasm_syntax.specs.declared.modules.ElemSeg.{ElemSeg}
use Rattle.wasm_syntax.specs.declared.modules.ElemSeg.TheVariants.{Active, Declared}

-- the readers, with all of their parts open
instr : Form → List ℕ → Option Instr
unfolding first_u32 first_s32 first_s64 first_i32 first_i64 first_f32 first_f64 first_indices first_val_type first_block_type first_instr
instr form bytes = whole (first_instr form) bytes

expr : Form → List ℕ → Option (List Instr)
unfolding instr first_instrs first_expr
expr form bytes = whole (first_expr form) bytes

place : Form → List ℕ → ℕ
unfolding expr is_utf8 chars lib.Utf8.encode first_bytes first_name first_func_type first_limits first_table_type
    first_mutability first_global_type first_import_kind first_import first_global first_export_kind first_export
    first_elem first_data first_run first_locals first_code first_section next_section lawful_sections read_sections
    fault_place
place form bytes = fault_place form bytes

-- ---- blocks: an `Else` is in an `if` alone, once, and each block has its `End`

if_else : expr Core (0x04 ∷ 0x40 ∷ 0x01 ∷ 0x05 ∷ 0x01 ∷ 0x0B ∷ 0x0B ∷ []) ≡ Some (If None ∷ Nop ∷ Else ∷ Nop ∷ End ∷ End ∷ [])
unfolding expr
if_else = refl

else_in_block : expr Core (0x02 ∷ 0x40 ∷ 0x05 ∷ 0x0B ∷ 0x0B ∷ []) ≡ None
unfolding expr
else_in_block = refl

else_in_body : expr Core (0x05 ∷ 0x0B ∷ []) ≡ None
unfolding expr
else_in_body = refl

two_elses : expr Core (0x04 ∷ 0x40 ∷ 0x05 ∷ 0x05 ∷ 0x0B ∷ 0x0B ∷ []) ≡ None
unfolding expr
two_elses = refl

block_without_end : expr Core (0x02 ∷ 0x7F ∷ 0x0B ∷ []) ≡ None
unfolding expr
block_without_end = refl

behind_the_end : expr Core (0x0B ∷ 0x01 ∷ []) ≡ None
unfolding expr
behind_the_end = refl

-- ---- instructions

call_indirect : instr Core (0x11 ∷ 0x83 ∷ 0x00 ∷ 0x00 ∷ []) ≡ Some (CallIndirect 3)
unfolding instr
call_indirect = refl

call_indirect_long_table : instr Core (0x11 ∷ 0x03 ∷ 0x80 ∷ 0x00 ∷ []) ≡ None
unfolding instr
call_indirect_long_table = refl

size_of_another_memory : instr Core (0x3F ∷ 0x01 ∷ []) ≡ None
unfolding instr
size_of_another_memory = refl

block_of_references : instr Replay (0x02 ∷ 0x70 ∷ []) ≡ None
unfolding instr
block_of_references = refl

-- the bits beyond the 32nd are the sign
least_i32 : instr Core (0x41 ∷ 0x80 ∷ 0x80 ∷ 0x80 ∷ 0x80 ∷ 0x78 ∷ []) ≡ Some (Const (record { ty = I32; bits = 0x8000_0000 }))
unfolding instr
least_i32 = refl

minus_one : instr Core (0x41 ∷ 0xFF ∷ 0xFF ∷ 0xFF ∷ 0xFF ∷ 0x7F ∷ []) ≡ Some (Const (record { ty = I32; bits = 0xFFFF_FFFF }))
unfolding instr
minus_one = refl

no_sign : instr Core (0x41 ∷ 0xFF ∷ 0xFF ∷ 0xFF ∷ 0xFF ∷ 0x0F ∷ []) ≡ None
unfolding instr
no_sign = refl

minus_one_long : instr Core (0x42 ∷ 0xFF ∷ 0x7F ∷ []) ≡ Some (Const (record { ty = I64; bits = 0xFFFF_FFFF_FFFF_FFFF }))
unfolding instr
minus_one_long = refl

float_one : instr Core (0x43 ∷ 0x00 ∷ 0x00 ∷ 0x80 ∷ 0x3F ∷ []) ≡ Some (Const (record { ty = F32; bits = 0x3F80_0000 }))
unfolding instr
float_one = refl

-- opcodes that are not known
unknown : (instr Core (0x06 ∷ []) ≡ None) × (instr Core (0x12 ∷ 0x00 ∷ []) ≡ None) × (instr Core (0x1C ∷ []) ≡ None) × (instr Core (0x25 ∷ 0x00 ∷ []) ≡ None)
    × (instr Core (0xC5 ∷ []) ≡ None) × (instr Replay (0xC5 ∷ []) ≡ None) × (instr Core (0xFD ∷ 0x0C ∷ []) ≡ None)
unfolding instr
unknown = (refl, refl, refl, refl, refl, refl, refl)

-- the first and the last sign extension
sign_extensions : (instr Core (0xC0 ∷ []) ≡ Some (Numeric 0xC0)) × (instr Core (0xC4 ∷ []) ≡ Some (Numeric 0xC4))
    × (instr Replay (0xC2 ∷ []) ≡ Some (Numeric 0xC2))
unfolding instr
sign_extensions = (refl, refl, refl)

-- `memory.copy`, its number in one byte, in two and in five, which are the most
copies : (instr Core (0xFC ∷ 0x0A ∷ 0x00 ∷ 0x00 ∷ []) ≡ Some MemoryCopy) × (instr Replay (0xFC ∷ 0x0A ∷ 0x00 ∷ 0x00 ∷ []) ≡ Some MemoryCopy)
    × (instr Core (0xFC ∷ 0x8A ∷ 0x00 ∷ 0x00 ∷ 0x00 ∷ []) ≡ Some MemoryCopy)
    × (instr Core (0xFC ∷ 0x8A ∷ 0x80 ∷ 0x80 ∷ 0x80 ∷ 0x00 ∷ 0x00 ∷ 0x00 ∷ []) ≡ Some MemoryCopy)
    × (instr Core (0xFC ∷ 0x8A ∷ 0x80 ∷ 0x80 ∷ 0x80 ∷ 0x80 ∷ 0x00 ∷ 0x00 ∷ 0x00 ∷ []) ≡ None)
unfolding instr
copies = (refl, refl, refl, refl, refl)

-- bytes that are cut short, that name another memory, that spell its index longer
no_copies : (instr Core (0xFC ∷ []) ≡ None) × (instr Core (0xFC ∷ 0x0A ∷ []) ≡ None) × (instr Core (0xFC ∷ 0x0A ∷ 0x00 ∷ []) ≡ None)
    × (instr Core (0xFC ∷ 0x0A ∷ 0x01 ∷ 0x00 ∷ []) ≡ None) × (instr Core (0xFC ∷ 0x0A ∷ 0x00 ∷ 0x01 ∷ []) ≡ None)
    × (instr Core (0xFC ∷ 0x0A ∷ 0x80 ∷ 0x00 ∷ 0x00 ∷ []) ≡ None)
unfolding instr
no_copies = (refl, refl, refl, refl, refl, refl)

fills : (instr Core (0xFC ∷ 0x0B ∷ 0x00 ∷ []) ≡ Some MemoryFill) × (instr Replay (0xFC ∷ 0x8B ∷ 0x00 ∷ 0x00 ∷ []) ≡ Some MemoryFill)
    × (instr Core (0xFC ∷ 0x0B ∷ []) ≡ None) × (instr Core (0xFC ∷ 0x0B ∷ 0x01 ∷ []) ≡ None) × (instr Core (0xFC ∷ 0x0B ∷ 0x00 ∷ 0x00 ∷ []) ≡ None)
unfolding instr
fills = (refl, refl, refl, refl, refl)

-- other numbers of the prefix: `i32.trunc_sat_f32_s`, `memory.init`, `data.drop`, `table.init`, `table.copy`,
-- `table.fill`, and the number of `memory.copy` and 256
other_prefixed : (instr Core (0xFC ∷ 0x00 ∷ []) ≡ None) × (instr Core (0xFC ∷ 0x08 ∷ 0x00 ∷ 0x00 ∷ []) ≡ None) × (instr Core (0xFC ∷ 0x09 ∷ 0x00 ∷ []) ≡ None)
    × (instr Core (0xFC ∷ 0x0C ∷ 0x00 ∷ 0x00 ∷ []) ≡ None) × (instr Core (0xFC ∷ 0x0E ∷ 0x00 ∷ 0x00 ∷ []) ≡ None)
    × (instr Core (0xFC ∷ 0x8A ∷ 0x02 ∷ 0x00 ∷ 0x00 ∷ []) ≡ None)
    × (instr Replay (0xFC ∷ 0x08 ∷ 0x00 ∷ 0x00 ∷ []) ≡ None) × (instr Replay (0xFC ∷ 0x0C ∷ 0x00 ∷ 0x00 ∷ []) ≡ None)
    × (instr Replay (0xFC ∷ 0x11 ∷ 0x00 ∷ []) ≡ None)
unfolding instr
other_prefixed = (refl, refl, refl, refl, refl, refl, refl, refl, refl)

-- what the replay form alone has
replay_alone : (instr Core (0x26 ∷ 0x00 ∷ []) ≡ None) × (instr Core (0xD0 ∷ 0x70 ∷ []) ≡ None) × (instr Core (0xD2 ∷ 0x05 ∷ []) ≡ None)
    × (instr Replay (0x26 ∷ 0x00 ∷ []) ≡ Some (TableSet 0)) × (instr Replay (0xD0 ∷ 0x70 ∷ []) ≡ Some RefNull)
    × (instr Replay (0xD2 ∷ 0x05 ∷ []) ≡ Some (RefFunc 5))
    × (instr Replay (0xD0 ∷ 0x6F ∷ []) ≡ None)
unfolding instr
replay_alone = (refl, refl, refl, refl, refl, refl, refl)

-- `table.grow` and `table.size`, with a number in one byte and in two
tables_alone : (instr Core (0xFC ∷ 0x0F ∷ 0x00 ∷ []) ≡ None) × (instr Core (0xFC ∷ 0x10 ∷ 0x00 ∷ []) ≡ None)
    × (instr Replay (0xFC ∷ 0x0F ∷ 0x00 ∷ []) ≡ Some (TableGrow 0)) × (instr Replay (0xFC ∷ 0x10 ∷ 0x00 ∷ []) ≡ Some (TableSize 0))
    × (instr Replay (0xFC ∷ 0x8F ∷ 0x00 ∷ 0x81 ∷ 0x00 ∷ []) ≡ Some (TableGrow 1)) × (instr Replay (0xFC ∷ 0x10 ∷ []) ≡ None)
unfolding instr
tables_alone = (refl, refl, refl, refl, refl, refl)

-- ---- element segments

elem : Form → List ℕ → Option ElemSeg
unfolding expr first_elem
elem form bytes = whole (first_elem form) bytes

table_one : (elem Core (0x01 ∷ 0x0B ∷ 0x01 ∷ 0x07 ∷ []) ≡ Some (Active 1 (End ∷ []) (7 ∷ []))) × (elem Replay (0x01 ∷ 0x0B ∷ 0x01 ∷ 0x07 ∷ []) ≡ None)
unfolding elem
table_one = (refl, refl)

long_zero : elem Replay (0x80 ∷ 0x00 ∷ 0x0B ∷ 0x01 ∷ 0x07 ∷ []) ≡ Some (Active 0 (End ∷ []) (7 ∷ []))
unfolding elem
long_zero = refl

declared : (elem Replay (0x03 ∷ 0x00 ∷ 0x02 ∷ 0x07 ∷ 0x08 ∷ []) ≡ Some (Declared (7 ∷ 8 ∷ []))) × (elem Replay (0x03 ∷ 0x01 ∷ 0x00 ∷ []) ≡ None)
    × (elem Core (0x03 ∷ 0x00 ∷ 0x02 ∷ 0x07 ∷ 0x08 ∷ []) ≡ None)
unfolding elem
declared = (refl, refl, refl)

-- ---- limits

limits : List ℕ → Option Limits
unfolding first_u32 first_limits
limits bytes = whole first_limits bytes

limits_flags : (limits (0x00 ∷ 0x05 ∷ []) ≡ Some (record { min = 5; max = None }))
    × (limits (0x01 ∷ 0x05 ∷ 0x03 ∷ []) ≡ Some (record { min = 5; max = Some 3 }))
    × (limits (0x03 ∷ 0x05 ∷ 0x06 ∷ []) ≡ None)
unfolding limits
limits_flags = (refl, refl, refl)

-- ---- locals

locals : List ℕ → Option (List Run)
unfolding first_u32 first_val_type first_run first_locals
locals bytes = whole first_locals bytes

-- runs of no locals are left out, and neighbours of one type are joined
joined : locals (0x04 ∷ 0x02 ∷ 0x7F ∷ 0x00 ∷ 0x7E ∷ 0x03 ∷ 0x7F ∷ 0x01 ∷ 0x7E ∷ [])
    ≡ Some (record { count = 5; ty = I32 } ∷ record { count = 1; ty = I64 } ∷ [])
unfolding locals
joined = refl

max_locals : locals (0x01 ∷ 0xFF ∷ 0xFF ∷ 0xFF ∷ 0xFF ∷ 0x0F ∷ 0x7F ∷ []) ≡ Some (record { count = 0xFFFF_FFFF; ty = I32 } ∷ [])
unfolding locals
max_locals = refl

too_many_locals : locals (0x02 ∷ 0xFF ∷ 0xFF ∷ 0xFF ∷ 0xFF ∷ 0x0F ∷ 0x7F ∷ 0x01 ∷ 0x7E ∷ []) ≡ None
unfolding locals
too_many_locals = refl

-- ---- the place of a fault

-- an empty type section, and an empty memory section before it
out_of_order : place Core (preamble ++ 0x05 ∷ 0x01 ∷ 0x00 ∷ 0x01 ∷ 0x01 ∷ 0x00 ∷ []) ≡ 11
unfolding place
out_of_order = refl

twice : place Core (preamble ++ 0x01 ∷ 0x01 ∷ 0x00 ∷ 0x01 ∷ 0x01 ∷ 0x00 ∷ []) ≡ 11
unfolding place
twice = refl

-- custom sections of an empty name are before, between and after the others
customs : place Core (preamble ++ 0x00 ∷ 0x01 ∷ 0x00 ∷ 0x01 ∷ 0x01 ∷ 0x00 ∷ 0x00 ∷ 0x02 ∷ 0x00 ∷ 0xFF ∷ 0x05 ∷ 0x01 ∷ 0x00 ∷ 0x00 ∷ 0x01 ∷ 0x00 ∷ []) ≡ 24
unfolding place
customs = refl

-- a name that is no text
no_text : place Core (preamble ++ 0x00 ∷ 0x02 ∷ 0x01 ∷ 0xFF ∷ []) ≡ 8
unfolding place
no_text = refl

-- an id that isn't known, a size past the end, a content that is longer than its size, one that is shorter
unknown_id : place Core (preamble ++ 0x01 ∷ 0x01 ∷ 0x00 ∷ 0x0C ∷ 0x01 ∷ 0x00 ∷ []) ≡ 11
unfolding place
unknown_id = refl

past_the_end : place Core (preamble ++ 0x01 ∷ 0x02 ∷ 0x00 ∷ []) ≡ 8
unfolding place
past_the_end = refl

too_long : place Core (preamble ++ 0x01 ∷ 0x01 ∷ 0x01 ∷ 0x60 ∷ 0x00 ∷ 0x00 ∷ []) ≡ 8
unfolding place
too_long = refl

too_short : place Core (preamble ++ 0x01 ∷ 0x02 ∷ 0x00 ∷ 0x00 ∷ []) ≡ 8
unfolding place
too_short = refl

only_preamble : place Core preamble ≡ 8
unfolding place
only_preamble = refl
