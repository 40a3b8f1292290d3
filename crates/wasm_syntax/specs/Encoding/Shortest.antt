-- The shortest encoding of a module: each number in its fewest bytes, no section that is empty, custom sections last
-- (Core 1.0, 5).
use Rattle.std.specs.Prelude.{ℕ, List, [], ◌∷◌, ◌++◌, length, map, flat_map, Option, Some, None, Bool, true, false, option_to_list}
use Rattle.std.specs.Int.{w32, w64, to_le_bytes}
use Rattle.leb_bytes.specs.Unsigned.{u32_bytes}
use Rattle.leb_bytes.specs.Signed.{i32_bytes, i64_bytes}
pub use Rattle.wasm_syntax.specs.Alike.{type_byte as val_type_byte}
use Rattle.base.specs.declared.opcodes.TheConstants.{I32_CONST, I64_CONST, F32_CONST, F64_CONST, UNREACHABLE, NOP, BLOCK, LOOP, IF, ELSE, END, BR, BR_IF, BR_TABLE, RETURN, CALL, CALL_INDIRECT, DROP, SELECT, LOCAL_GET, LOCAL_SET, LOCAL_TEE, GLOBAL_GET, GLOBAL_SET, MEMORY_SIZE, MEMORY_GROW, TABLE_SET, REF_NULL, REF_FUNC, PREFIX, MEMORY_COPY, MEMORY_FILL, TABLE_GROW, TABLE_SIZE}
use Rattle.base.specs.declared.marks.TheConstants.{TYPE_EMPTY, TYPE_FUNC, LIMITS_MIN, LIMITS_MIN_MAX, TYPE_FUNCREF, MUTABILITY_CONST, MUTABILITY_VAR, EXTERNAL_FUNC, EXTERNAL_TABLE, EXTERNAL_MEMORY, EXTERNAL_GLOBAL, ELEMENT_DECLARED, ELEMENT_FUNCS}
use Rattle.wasm_syntax.specs.Encoding.Sections.{Code, Section, CustomSection, TypeSection, ImportSection, FunctionSection, TableSection, MemorySection, GlobalSection, ExportSection, StartSection, ElementSection, CodeSection, DataSection, id_of, export_index, export_mark}
use Rattle.wasm_syntax.specs.Encoding.Modules.{preamble, code_of}
use Rattle.wasm_syntax.specs.declared.values.ValType.{ValType}
use Rattle.wasm_syntax.specs.declared.values.ValType.TheVariants.{I32, I64, F32, F64, FuncRef}
use Rattle.wasm_syntax.specs.declared.signatures.FuncType.{FuncType}
use Rattle.wasm_syntax.specs.declared.signatures.Limits.{Limits}
use Rattle.wasm_syntax.specs.declared.signatures.GlobalType.{GlobalType}
use Rattle.wasm_syntax.specs.declared.instructions.MemArg.{MemArg}
use Rattle.wasm_syntax.specs.declared.instructions.Instr.{Instr}
use Rattle.wasm_syntax.specs.declared.instructions.Instr.TheVariants.{Unreachable, Nop, Block, Loop, If, Else, End, Br, BrIf, BrTable, Return, Call, CallIndirect, Drop, Select, LocalGet, LocalSet, LocalTee, GlobalGet, GlobalSet, Load, Store, MemorySize, MemoryGrow, MemoryCopy, MemoryFill, Const, Numeric, RefNull, RefFunc, TableSet, TableGrow, TableSize}
use Rattle.wasm_syntax.specs.declared.modules.Import.{Import}
use Rattle.wasm_syntax.specs.declared.modules.ImportKind.{ImportKind}
use Rattle.wasm_syntax.specs.declared.modules.ImportKind.TheVariants as imports
use Rattle.wasm_syntax.specs.declared.modules.Export.{Export}
use Rattle.wasm_syntax.specs.declared.modules.ExportKind.{ExportKind}
use Rattle.wasm_syntax.specs.declared.modules.Run.{Run}
use Rattle.wasm_syntax.specs.declared.modules.Global.{Global}
use Rattle.wasm_syntax.specs.declared.modules.ElemSeg.{ElemSeg}
use Rattle.wasm_syntax.specs.declared.modules.ElemSeg.TheVariants.{Active, Declared}
use Rattle.wasm_syntax.specs.declared.modules.DataSeg.{DataSeg}
use Rattle.wasm_syntax.specs.declared.modules.Custom.{Custom}
use Rattle.wasm_syntax.specs.declared.modules.Module.{Module}

-- the number of the bytes and then the bytes
abbrev pub sized_bytes : List ℕ → List ℕ
sized_bytes content = u32_bytes (length content) ++ content

-- the number of the items and then their bytes
abbrev pub vector_bytes : {A : Type 0} → (A → List ℕ) → List A → List ℕ
vector_bytes write xs = u32_bytes (length xs) ++ flat_map write xs

-- ---- types (Core 1.0, 5.3)

abbrev pub val_type_bytes : ValType → List ℕ
val_type_bytes ty = val_type_byte ty ∷ []

abbrev pub block_type_bytes : Option ValType → List ℕ
block_type_bytes None = TYPE_EMPTY ∷ []
block_type_bytes (Some ty) = val_type_bytes ty

unfoldable pub func_type_bytes : FuncType → List ℕ
func_type_bytes ty = TYPE_FUNC ∷ (vector_bytes val_type_bytes ty.params ++ vector_bytes val_type_bytes ty.results)

abbrev pub bounds_bytes : ℕ → Option ℕ → List ℕ
bounds_bytes least None = LIMITS_MIN ∷ u32_bytes least
bounds_bytes least (Some most) = LIMITS_MIN_MAX ∷ (u32_bytes least ++ u32_bytes most)

unfoldable pub limits_bytes : Limits → List ℕ
limits_bytes limits = bounds_bytes limits.min limits.max

abbrev pub table_type_bytes : Limits → List ℕ
table_type_bytes limits = TYPE_FUNCREF ∷ limits_bytes limits

abbrev pub mutability_byte : Bool → ℕ
mutability_byte false = MUTABILITY_CONST
mutability_byte true = MUTABILITY_VAR

unfoldable pub global_type_bytes : GlobalType → List ℕ
global_type_bytes ty = val_type_bytes ty.ty ++ mutability_byte ty.mutable ∷ []

-- ---- instructions (Core 1.0, 5.4; Core 2.0, 5.4)

unfoldable pub const_bytes : ValType → ℕ → List ℕ
const_bytes I32 bits = I32_CONST ∷ i32_bytes bits
const_bytes I64 bits = I64_CONST ∷ i64_bytes bits
const_bytes F32 bits = F32_CONST ∷ to_le_bytes w32 bits
const_bytes F64 bits = F64_CONST ∷ to_le_bytes w64 bits
const_bytes FuncRef bits = []

abbrev pub access_bytes : MemArg → List ℕ
access_bytes access = access.op ∷ (u32_bytes access.align ++ u32_bytes access.offset)

unfoldable pub instr_bytes : Instr → List ℕ
instr_bytes Unreachable = UNREACHABLE ∷ []
instr_bytes Nop = NOP ∷ []
instr_bytes (Block ty) = BLOCK ∷ block_type_bytes ty
instr_bytes (Loop ty) = LOOP ∷ block_type_bytes ty
instr_bytes (If ty) = IF ∷ block_type_bytes ty
instr_bytes Else = ELSE ∷ []
instr_bytes End = END ∷ []
instr_bytes (Br label) = BR ∷ u32_bytes label
instr_bytes (BrIf label) = BR_IF ∷ u32_bytes label
instr_bytes (BrTable labels default) = BR_TABLE ∷ (vector_bytes u32_bytes labels ++ u32_bytes default)
instr_bytes Return = RETURN ∷ []
instr_bytes (Call func) = CALL ∷ u32_bytes func
instr_bytes (CallIndirect ty) = CALL_INDIRECT ∷ (u32_bytes ty ++ 0x00 ∷ [])
instr_bytes Drop = DROP ∷ []
instr_bytes Select = SELECT ∷ []
instr_bytes (LocalGet local) = LOCAL_GET ∷ u32_bytes local
instr_bytes (LocalSet local) = LOCAL_SET ∷ u32_bytes local
instr_bytes (LocalTee local) = LOCAL_TEE ∷ u32_bytes local
instr_bytes (GlobalGet global) = GLOBAL_GET ∷ u32_bytes global
instr_bytes (GlobalSet global) = GLOBAL_SET ∷ u32_bytes global
instr_bytes (Load access) = access_bytes access
instr_bytes (Store access) = access_bytes access
instr_bytes MemorySize = MEMORY_SIZE ∷ 0x00 ∷ []
instr_bytes MemoryGrow = MEMORY_GROW ∷ 0x00 ∷ []
instr_bytes MemoryCopy = PREFIX ∷ (u32_bytes MEMORY_COPY ++ 0x00 ∷ 0x00 ∷ [])
instr_bytes MemoryFill = PREFIX ∷ (u32_bytes MEMORY_FILL ++ 0x00 ∷ [])
instr_bytes (Const value) = const_bytes value.ty value.bits
instr_bytes (Numeric op) = op ∷ []
instr_bytes (TableSet table) = TABLE_SET ∷ u32_bytes table
instr_bytes RefNull = REF_NULL ∷ TYPE_FUNCREF ∷ []
instr_bytes (RefFunc func) = REF_FUNC ∷ u32_bytes func
instr_bytes (TableGrow table) = PREFIX ∷ (u32_bytes TABLE_GROW ++ u32_bytes table)
instr_bytes (TableSize table) = PREFIX ∷ (u32_bytes TABLE_SIZE ++ u32_bytes table)

abbrev pub body_bytes : List Instr → List ℕ
body_bytes = flat_map instr_bytes

-- ---- sections (Core 1.0, 5.5)

unfoldable pub custom_bytes : Custom → List ℕ
custom_bytes c = sized_bytes c.name ++ c.bytes

abbrev pub import_kind_bytes : ImportKind → List ℕ
import_kind_bytes (imports.Func ty) = EXTERNAL_FUNC ∷ u32_bytes ty
import_kind_bytes (imports.Table limits) = EXTERNAL_TABLE ∷ table_type_bytes limits
import_kind_bytes (imports.Memory limits) = EXTERNAL_MEMORY ∷ limits_bytes limits
import_kind_bytes (imports.Global ty) = EXTERNAL_GLOBAL ∷ global_type_bytes ty

unfoldable pub import_bytes : Import → List ℕ
import_bytes i = sized_bytes i.module ++ (sized_bytes i.name ++ import_kind_bytes i.kind)

unfoldable pub global_bytes : Global → List ℕ
global_bytes g = global_type_bytes g.ty ++ body_bytes g.init

abbrev pub export_kind_bytes : ExportKind → List ℕ
export_kind_bytes kind = export_mark kind ∷ u32_bytes (export_index kind)

unfoldable pub export_bytes : Export → List ℕ
export_bytes e = sized_bytes e.name ++ export_kind_bytes e.kind

unfoldable pub elem_bytes : ElemSeg → List ℕ
elem_bytes (Active table offset funcs) = u32_bytes table ++ (body_bytes offset ++ vector_bytes u32_bytes funcs)
elem_bytes (Declared funcs) = u32_bytes ELEMENT_DECLARED ++ ELEMENT_FUNCS ∷ vector_bytes u32_bytes funcs

unfoldable pub data_bytes : DataSeg → List ℕ
data_bytes d = u32_bytes d.memory ++ (body_bytes d.offset ++ sized_bytes d.bytes)

abbrev pub run_bytes : Run → List ℕ
run_bytes run = u32_bytes run.count ++ val_type_bytes run.ty

unfoldable pub code_bytes : Code → List ℕ
code_bytes code = sized_bytes (vector_bytes run_bytes code.locals ++ body_bytes code.body)

unfoldable pub content_bytes : Section → List ℕ
content_bytes (CustomSection custom) = custom_bytes custom
content_bytes (TypeSection types) = vector_bytes func_type_bytes types
content_bytes (ImportSection imports) = vector_bytes import_bytes imports
content_bytes (FunctionSection types) = vector_bytes u32_bytes types
content_bytes (TableSection tables) = vector_bytes table_type_bytes tables
content_bytes (MemorySection memories) = vector_bytes limits_bytes memories
content_bytes (GlobalSection globals) = vector_bytes global_bytes globals
content_bytes (ExportSection exports) = vector_bytes export_bytes exports
content_bytes (StartSection func) = u32_bytes func
content_bytes (ElementSection elems) = vector_bytes elem_bytes elems
content_bytes (CodeSection codes) = vector_bytes code_bytes codes
content_bytes (DataSection datas) = vector_bytes data_bytes datas

unfoldable pub section_bytes : Section → List ℕ
section_bytes section = id_of section ∷ sized_bytes (content_bytes section)

-- ---- the module (Core 1.0, 5.5.15)

-- the section of a list, if the list is not empty
abbrev pub unless_empty : {A : Type 0} → (List A → Section) → List A → List Section
unless_empty make [] = []
unless_empty make (x ∷ xs) = make (x ∷ xs) ∷ []

unfoldable pub sections_of : Module → List Section
sections_of m =
    unless_empty TypeSection m.types
    ++ (unless_empty ImportSection m.imports
    ++ (unless_empty FunctionSection (map (λ func. func.ty) m.funcs)
    ++ (unless_empty TableSection m.tables
    ++ (unless_empty MemorySection m.memories
    ++ (unless_empty GlobalSection m.globals
    ++ (unless_empty ExportSection m.exports
    ++ (map StartSection (option_to_list m.start)
    ++ (unless_empty ElementSection m.elems
    ++ (unless_empty CodeSection (map code_of m.funcs)
    ++ (unless_empty DataSection m.datas
    ++ map CustomSection m.customs))))))))))

-- the shortest encoding of a module: the preamble, then its sections, each in its shortest encoding (Core 1.0, 5.5.15)
unfoldable pub encoding_of : Module → List ℕ
encoding_of m = preamble ++ flat_map section_bytes (sections_of m)
