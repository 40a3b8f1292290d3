-- Reading types, instructions and the items of sections (Core 1.0, 5.2 to 5.5; Core 2.0, 5.4).
use Rattle.std.specs.Prelude.{ℕ, zero, suc, ◌+◌, ◌^◌, List, [], ◌∷◌, length, take, drop, Option, Some, None, option_map, option_and_then, Bool, true, false, cond, nat_eq, nat_lt, sum_by}
use Rattle.std.specs.Int.{w32, w64, from_le_bytes}
use Rattle.std.specs.Str.{is_utf8}
use Rattle.std.specs.List.{list_all}
use Rattle.leb_bytes.specs.Unsigned.{first_u32}
use Rattle.leb_bytes.specs.Signed.{first_i32, first_i64}
use Rattle.base.specs.declared.opcodes.TheConstants.{UNREACHABLE, NOP, BLOCK, LOOP, IF, ELSE, END, BR, BR_IF, BR_TABLE, RETURN, CALL, CALL_INDIRECT, DROP, SELECT, LOCAL_GET, LOCAL_SET, LOCAL_TEE, GLOBAL_GET, GLOBAL_SET, MEMORY_SIZE, MEMORY_GROW, I32_CONST, I64_CONST, F32_CONST, F64_CONST, TABLE_SET, REF_NULL, REF_FUNC, PREFIX, MEMORY_COPY, MEMORY_FILL, TABLE_GROW, TABLE_SIZE, I32_EQZ, I64_EXTEND32_S, I32_LOAD, I64_LOAD32_U, I32_STORE, I64_STORE32}
use Rattle.base.specs.declared.marks.TheConstants.{TYPE_I32, TYPE_I64, TYPE_F32, TYPE_F64, TYPE_EMPTY, TYPE_FUNC, LIMITS_MIN, LIMITS_MIN_MAX, TYPE_FUNCREF, MUTABILITY_CONST, MUTABILITY_VAR, EXTERNAL_FUNC, EXTERNAL_TABLE, EXTERNAL_MEMORY, EXTERNAL_GLOBAL, ELEMENT_DECLARED, ELEMENT_FUNCS}
use Rattle.wasm_syntax.specs.Opcodes.{is_from}
use Rattle.wasm_syntax.specs.Encoding.Combinators.{Reader, always, map_read, first_then, first_exactly, by_mark, by_number, Rows, row_at, first_vector, whole, first_sized}
use Rattle.wasm_syntax.specs.Encoding.Shortest.{val_type_byte}
use Rattle.wasm_syntax.specs.Encoding.Sections.{Code}
use Rattle.wasm_syntax.specs.declared.forms.Form.{Form}
use Rattle.wasm_syntax.specs.declared.forms.Form.TheVariants as forms
use Rattle.wasm_syntax.specs.declared.values.ValType.{ValType}
use Rattle.wasm_syntax.specs.declared.values.ValType.TheVariants.{I32, I64, F32, F64}
use Rattle.wasm_syntax.specs.declared.signatures.FuncType.{FuncType}
use Rattle.wasm_syntax.specs.declared.signatures.Limits.{Limits}
use Rattle.wasm_syntax.specs.declared.signatures.GlobalType.{GlobalType}
use Rattle.wasm_syntax.specs.declared.instructions.MemArg.{MemArg}
use Rattle.wasm_syntax.specs.declared.instructions.Instr.{Instr}
use Rattle.wasm_syntax.specs.declared.instructions.Instr.TheVariants.{Unreachable, Nop, Block, Loop, If, Else, End, Br, BrIf, BrTable, Return, Call, CallIndirect, Drop, Select, LocalGet, LocalSet, LocalTee, GlobalGet, GlobalSet, Load, Store, MemorySize, MemoryGrow, MemoryCopy, MemoryFill, Const, Numeric, RefNull, RefFunc, TableSet, TableGrow, TableSize}
use Rattle.wasm_syntax.specs.declared.modules.Import.{Import}
use Rattle.wasm_syntax.specs.declared.modules.ImportKind.{ImportKind}
use Rattle.wasm_syntax.specs.declared.modules.ImportKind.TheVariants as imports
use Rattle.wasm_syntax.specs.declared.modules.Export.{Export}
use Rattle.wasm_syntax.specs.declared.modules.ExportKind.{ExportKind}
use Rattle.wasm_syntax.specs.declared.modules.ExportKind.TheVariants as exports
use Rattle.wasm_syntax.specs.declared.modules.Run.{Run}
use Rattle.wasm_syntax.specs.declared.modules.Global.{Global}
use Rattle.wasm_syntax.specs.declared.modules.ElemSeg.{ElemSeg}
use Rattle.wasm_syntax.specs.declared.modules.ElemSeg.TheVariants.{Active, Declared}
use Rattle.wasm_syntax.specs.declared.modules.DataSeg.{DataSeg}

-- ---- values and names

-- a number of bytes as they are
abbrev pub first_raw : ℕ → Reader (List ℕ)
first_raw count bytes = cond (nat_lt (length bytes) count) None (Some (take count bytes, drop count bytes))

abbrev pub where_bytes : {A : Type 0} → (List ℕ → A) → List ℕ × List ℕ → Option (A × List ℕ)
where_bytes make raw = cond (list_all (λ b. nat_lt b (2 ^ 8)) raw.0) (Some (make raw.0, raw.1)) None

unfoldable pub first_f32 : Reader ℕ
first_f32 bytes = option_and_then (where_bytes (from_le_bytes w32)) (first_raw 4 bytes)

unfoldable pub first_f64 : Reader ℕ
first_f64 bytes = option_and_then (where_bytes (from_le_bytes w64)) (first_raw 8 bytes)

unfoldable pub first_bytes : Reader (List ℕ)
first_bytes bytes = first_sized Some bytes

unfoldable pub first_name : Reader (List ℕ)
first_name bytes = option_and_then (λ name. cond (is_utf8 name.0) (Some name) None) (first_bytes bytes)

unfoldable pub first_indices : Reader (List ℕ)
first_indices bytes = first_vector first_u32 bytes

-- ---- types

abbrev pub val_type_rows : Rows ValType
val_type_rows = (TYPE_I32, always I32) ∷ (TYPE_I64, always I64) ∷ (TYPE_F32, always F32) ∷ (TYPE_F64, always F64) ∷ []

unfoldable pub first_val_type : Reader ValType
first_val_type bytes = by_mark (row_at val_type_rows) bytes

abbrev pub block_type_rows : Rows (Option ValType)
block_type_rows =
    (TYPE_EMPTY, always None)
    ∷ (TYPE_I32, always (Some I32)) ∷ (TYPE_I64, always (Some I64))
    ∷ (TYPE_F32, always (Some F32)) ∷ (TYPE_F64, always (Some F64)) ∷ []

unfoldable pub first_block_type : Reader (Option ValType)
first_block_type bytes = by_mark (row_at block_type_rows) bytes

abbrev pub func_type : List ValType × List ValType → FuncType
func_type lists = record { params = lists.0; results = lists.1 }

abbrev pub func_type_rows : Rows FuncType
func_type_rows =
    (TYPE_FUNC, map_read func_type (first_then (first_vector first_val_type) (first_vector first_val_type))) ∷ []

unfoldable pub first_func_type : Reader FuncType
first_func_type bytes = by_mark (row_at func_type_rows) bytes

abbrev pub at_least : ℕ → Limits
at_least least = record { min = least; max = None }

abbrev pub between : ℕ × ℕ → Limits
between bounds = record { min = bounds.0; max = Some bounds.1 }

abbrev pub limits_rows : Rows Limits
limits_rows =
    (LIMITS_MIN, map_read at_least first_u32) ∷ (LIMITS_MIN_MAX, map_read between (first_then first_u32 first_u32)) ∷ []

unfoldable pub first_limits : Reader Limits
first_limits bytes = by_mark (row_at limits_rows) bytes

unfoldable pub first_table_type : Reader Limits
first_table_type bytes = by_mark (row_at ((TYPE_FUNCREF, first_limits) ∷ [])) bytes

unfoldable pub first_mutability : Reader Bool
first_mutability bytes = by_mark (row_at ((MUTABILITY_CONST, always false) ∷ (MUTABILITY_VAR, always true) ∷ [])) bytes

abbrev pub global_type : ValType × Bool → GlobalType
global_type parts = record { ty = parts.0; mutable = parts.1 }

unfoldable pub first_global_type : Reader GlobalType
first_global_type bytes = map_read global_type (first_then first_val_type first_mutability) bytes

-- ---- instructions

abbrev pub const : ValType → ℕ → Instr
const ty bits = Const (record { ty = ty; bits = bits })

abbrev pub mem_arg : ℕ → ℕ × ℕ → MemArg
mem_arg op numbers = record { op = op; align = numbers.0; offset = numbers.1 }

abbrev pub core_rows : Rows Instr
core_rows =
    (UNREACHABLE, always Unreachable) ∷ (NOP, always Nop)
    ∷ (BLOCK, map_read Block first_block_type) ∷ (LOOP, map_read Loop first_block_type)
    ∷ (IF, map_read If first_block_type)
    ∷ (ELSE, always Else) ∷ (END, always End)
    ∷ (BR, map_read Br first_u32) ∷ (BR_IF, map_read BrIf first_u32)
    ∷ (BR_TABLE, map_read (λ labels. BrTable labels.0 labels.1) (first_then first_indices first_u32))
    ∷ (RETURN, always Return)
    ∷ (CALL, map_read Call first_u32)
    ∷ (CALL_INDIRECT, map_read (λ parts. CallIndirect parts.0) (first_then first_u32 (first_exactly (0x00 ∷ []))))
    ∷ (DROP, always Drop) ∷ (SELECT, always Select)
    ∷ (LOCAL_GET, map_read LocalGet first_u32) ∷ (LOCAL_SET, map_read LocalSet first_u32)
    ∷ (LOCAL_TEE, map_read LocalTee first_u32)
    ∷ (GLOBAL_GET, map_read GlobalGet first_u32) ∷ (GLOBAL_SET, map_read GlobalSet first_u32)
    ∷ (MEMORY_SIZE, map_read (λ it. MemorySize) (first_exactly (0x00 ∷ [])))
    ∷ (MEMORY_GROW, map_read (λ it. MemoryGrow) (first_exactly (0x00 ∷ [])))
    ∷ (I32_CONST, map_read (const I32) first_i32) ∷ (I64_CONST, map_read (const I64) first_i64)
    ∷ (F32_CONST, map_read (const F32) first_f32) ∷ (F64_CONST, map_read (const F64) first_f64)
    ∷ []

-- the instructions of the prefix, by their numbers
abbrev pub core_prefixed_rows : Rows Instr
core_prefixed_rows =
    (MEMORY_COPY, map_read (λ it. MemoryCopy) (first_exactly (0x00 ∷ 0x00 ∷ [])))
    ∷ (MEMORY_FILL, map_read (λ it. MemoryFill) (first_exactly (0x00 ∷ []))) ∷ []

abbrev pub prefixed_rows : Form → Rows Instr
prefixed_rows forms.Core = core_prefixed_rows
prefixed_rows forms.Replay =
    (TABLE_GROW, map_read TableGrow first_u32) ∷ (TABLE_SIZE, map_read TableSize first_u32) ∷ core_prefixed_rows

abbrev pub instr_rows : Form → Rows Instr
instr_rows forms.Core = (PREFIX, by_number (row_at (prefixed_rows forms.Core))) ∷ core_rows
instr_rows forms.Replay =
    (PREFIX, by_number (row_at (prefixed_rows forms.Replay)))
    ∷ (TABLE_SET, map_read TableSet first_u32)
    ∷ (REF_NULL, map_read (λ it. RefNull) (first_exactly (TYPE_FUNCREF ∷ [])))
    ∷ (REF_FUNC, map_read RefFunc first_u32)
    ∷ core_rows

abbrev pub instr_at : Form → ℕ → Option (Reader Instr)
instr_at form op =
    cond (is_from I32_EQZ I64_EXTEND32_S op) (Some (always (Numeric op)))
    (cond (is_from I32_LOAD I64_LOAD32_U op)
    (Some (map_read (λ numbers. Load (mem_arg op numbers)) (first_then first_u32 first_u32)))
    (cond (is_from I32_STORE I64_STORE32 op)
    (Some (map_read (λ numbers. Store (mem_arg op numbers)) (first_then first_u32 first_u32)))
    (row_at (instr_rows form) op)))

unfoldable pub first_instr : Form → Reader Instr
first_instr form bytes = by_mark (instr_at form) bytes

-- The blocks that are open after an instruction, the innermost first, each with whether an `Else` may still come in
-- it; None if the instruction cannot be there. The body itself is a block.
abbrev pub open_after : Instr → List Bool → Option (List Bool)
open_after i [] = None
open_after (Block ty) (b ∷ blocks) = Some (false ∷ b ∷ blocks)
open_after (Loop ty) (b ∷ blocks) = Some (false ∷ b ∷ blocks)
open_after (If ty) (b ∷ blocks) = Some (true ∷ b ∷ blocks)
open_after Else (true ∷ blocks) = Some (false ∷ blocks)
open_after Else (false ∷ blocks) = None
open_after End (b ∷ blocks) = Some blocks
open_after i (b ∷ blocks) = Some (b ∷ blocks)

-- instructions, at most `most`, until no block is open
unfoldable pub first_instrs : Form → ℕ → List Bool → Reader (List Instr)
first_instrs form most [] bytes = Some ([], bytes)
first_instrs form zero (b ∷ blocks) bytes = None
first_instrs form (suc most) (b ∷ blocks) bytes =
    option_and_then (λ first. option_and_then (λ still.
    option_map (λ others. (first.0 ∷ others.0, others.1)) (first_instrs form most still first.1))
    (open_after first.0 (b ∷ blocks))) (first_instr form bytes)

unfoldable pub first_expr : Form → Reader (List Instr)
first_expr form bytes = first_instrs form (length bytes) (false ∷ []) bytes

-- ---- items of sections

abbrev pub import_kind_rows : Rows ImportKind
import_kind_rows =
    (EXTERNAL_FUNC, map_read imports.Func first_u32) ∷ (EXTERNAL_TABLE, map_read imports.Table first_table_type)
    ∷ (EXTERNAL_MEMORY, map_read imports.Memory first_limits)
    ∷ (EXTERNAL_GLOBAL, map_read imports.Global first_global_type) ∷ []

unfoldable pub first_import_kind : Reader ImportKind
first_import_kind bytes = by_mark (row_at import_kind_rows) bytes

abbrev pub import_of : List ℕ × (List ℕ × ImportKind) → Import
import_of parts = record { «module» = parts.0; name = parts.1.0; kind = parts.1.1 }

unfoldable pub first_import : Reader Import
first_import bytes = map_read import_of (first_then first_name (first_then first_name first_import_kind)) bytes

abbrev pub global_of : GlobalType × List Instr → Global
global_of parts = record { ty = parts.0; init = parts.1 }

unfoldable pub first_global : Form → Reader Global
first_global form bytes = map_read global_of (first_then first_global_type (first_expr form)) bytes

abbrev pub export_kind_rows : Rows ExportKind
export_kind_rows =
    (EXTERNAL_FUNC, map_read exports.Func first_u32) ∷ (EXTERNAL_TABLE, map_read exports.Table first_u32)
    ∷ (EXTERNAL_MEMORY, map_read exports.Memory first_u32) ∷ (EXTERNAL_GLOBAL, map_read exports.Global first_u32) ∷ []

unfoldable pub first_export_kind : Reader ExportKind
first_export_kind bytes = by_mark (row_at export_kind_rows) bytes

abbrev pub export_of : List ℕ × ExportKind → Export
export_of parts = record { name = parts.0; kind = parts.1 }

unfoldable pub first_export : Reader Export
first_export bytes = map_read export_of (first_then first_name first_export_kind) bytes

-- the offset and the functions of an active segment
abbrev pub active_of : ℕ → List Instr × List ℕ → ElemSeg
active_of table parts = Active table parts.0 parts.1

abbrev pub elem_after : Form → ℕ → Reader ElemSeg
elem_after forms.Core kind bytes = map_read (active_of kind) (first_then (first_expr forms.Core) first_indices) bytes
elem_after forms.Replay kind bytes =
    cond (nat_eq kind 0) (map_read (active_of kind) (first_then (first_expr forms.Replay) first_indices) bytes)
    (cond (nat_eq kind ELEMENT_DECLARED)
    (by_mark (row_at ((ELEMENT_FUNCS, map_read Declared first_indices) ∷ [])) bytes) None)

unfoldable pub first_elem : Form → Reader ElemSeg
first_elem form bytes = option_and_then (λ kind. elem_after form kind.0 kind.1) (first_u32 bytes)

abbrev pub data_of : ℕ × (List Instr × List ℕ) → DataSeg
data_of parts = record { memory = parts.0; offset = parts.1.0; bytes = parts.1.1 }

unfoldable pub first_data : Form → Reader DataSeg
first_data form bytes = map_read data_of (first_then first_u32 (first_then (first_expr form) first_bytes)) bytes

-- ---- code

abbrev pub run_of : ℕ × ValType → Run
run_of parts = record { count = parts.0; ty = parts.1 }

unfoldable pub first_run : Reader Run
first_run bytes = map_read run_of (first_then first_u32 first_val_type) bytes

-- runs after one more at the front: a run of no locals is left out, and neighbours of one type are joined
abbrev pub with_run : Run → List Run → List Run
with_run r [] = r ∷ []
with_run r (s ∷ rest) =
    cond (nat_eq (val_type_byte r.ty) (val_type_byte s.ty))
    (record { count = r.count + s.count; ty = s.ty } ∷ rest) (r ∷ s ∷ rest)

abbrev pub runs_of : List Run → List Run
runs_of [] = []
runs_of (r ∷ rest) = cond (nat_eq r.count 0) (runs_of rest) (with_run r (runs_of rest))

unfoldable pub first_locals : Reader (List Run)
first_locals bytes = option_and_then (λ written.
    cond (nat_lt (sum_by (λ run. run.count) written.0) (2 ^ 32)) (Some (runs_of written.0, written.1)) None)
    (first_vector first_run bytes)

abbrev pub code_of_parts : List Run × List Instr → Code
code_of_parts parts = record { locals = parts.0; body = parts.1 }

unfoldable pub first_code : Form → Reader Code
first_code form bytes = map_read code_of_parts (first_sized (whole (first_then first_locals (first_expr form)))) bytes
