-- Which bytes encode the sections of a module (Core 1.0, 5.5.2 to 5.5.14).
use Rattle.std.specs.Prelude.{◌≡◌, ℕ, ◌^◌, ◌<◌, ◌≢◌, List, [], ◌∷◌, replicate, flat_map, sum_by}
use Rattle.leb_bytes.specs.Unsigned.{EncodesU32}
use Rattle.base.specs.declared.marks.TheConstants.{EXTERNAL_FUNC, EXTERNAL_TABLE, EXTERNAL_MEMORY, EXTERNAL_GLOBAL, ELEMENT_FUNCS, ELEMENT_DECLARED, SECTION_CUSTOM, SECTION_TYPE, SECTION_IMPORT, SECTION_FUNCTION, SECTION_TABLE, SECTION_MEMORY, SECTION_GLOBAL, SECTION_EXPORT, SECTION_START, SECTION_ELEMENT, SECTION_CODE, SECTION_DATA}
use Rattle.wasm_syntax.specs.Encoding.Grammar.{Raw, Marked, ◌then◌, Sized, VectorOf}
use Rattle.wasm_syntax.specs.Encoding.Types.{EncodesBytes, EncodesIndices, EncodesName, EncodesValType, EncodesFuncType, EncodesLimits, EncodesTableType, EncodesGlobalType}
use Rattle.wasm_syntax.specs.Encoding.Instructions.{EncodesExpr}
use Rattle.wasm_syntax.specs.declared.forms.Form.{Form}
use Rattle.wasm_syntax.specs.declared.forms.Form.TheVariants as forms
use Rattle.wasm_syntax.specs.declared.values.ValType.{ValType}
use Rattle.wasm_syntax.specs.declared.instructions.Instr.{Instr}
use Rattle.wasm_syntax.specs.declared.signatures.FuncType.{FuncType}
use Rattle.wasm_syntax.specs.declared.signatures.Limits.{Limits}
use Rattle.wasm_syntax.specs.declared.modules.Import.{Import}
use Rattle.wasm_syntax.specs.declared.modules.ImportKind.{ImportKind}
use Rattle.wasm_syntax.specs.declared.modules.ImportKind.TheVariants as imports
use Rattle.wasm_syntax.specs.declared.modules.Export.{Export}
use Rattle.wasm_syntax.specs.declared.modules.ExportKind.{ExportKind}
use Rattle.wasm_syntax.specs.declared.modules.ExportKind.TheVariants as exports
use Rattle.wasm_syntax.specs.declared.modules.Run.{Run}
use Rattle.wasm_syntax.specs.declared.modules.Global.{Global}
use Rattle.wasm_syntax.specs.declared.modules.ElemSeg.{ElemSeg}
use Rattle.wasm_syntax.specs.declared.modules.ElemSeg.TheVariants.{Active, Declared}
use Rattle.wasm_syntax.specs.declared.modules.DataSeg.{DataSeg}
use Rattle.wasm_syntax.specs.declared.modules.Custom.{Custom}

-- a custom section: a name, and any bytes (Core 1.0, 5.5.3)
abbrev pub EncodesCustom : List ℕ → Custom → Type 0
EncodesCustom bytes c = (EncodesName then Raw) bytes (c.name, c.bytes)

-- an import (Core 1.0, 5.5.5)
abbrev pub EncodesImportKind : List ℕ → ImportKind → Type 0
EncodesImportKind bytes (imports.Func ty) = Marked EXTERNAL_FUNC EncodesU32 bytes ty
EncodesImportKind bytes (imports.Table limits) = Marked EXTERNAL_TABLE EncodesTableType bytes limits
EncodesImportKind bytes (imports.Memory limits) = Marked EXTERNAL_MEMORY EncodesLimits bytes limits
EncodesImportKind bytes (imports.Global ty) = Marked EXTERNAL_GLOBAL EncodesGlobalType bytes ty

abbrev pub EncodesImport : List ℕ → Import → Type 0
EncodesImport bytes i = (EncodesName then EncodesName then EncodesImportKind) bytes (i.module, (i.name, i.kind))

-- a global (Core 1.0, 5.5.9)
abbrev pub EncodesGlobal : Form → List ℕ → Global → Type 0
EncodesGlobal form bytes g = (EncodesGlobalType then EncodesExpr form) bytes (g.ty, g.init)

-- an export (Core 1.0, 5.5.10): the mark of its kind, the index of what it names
abbrev pub export_mark : ExportKind → ℕ
export_mark (exports.Func func) = EXTERNAL_FUNC
export_mark (exports.Table table) = EXTERNAL_TABLE
export_mark (exports.Memory memory) = EXTERNAL_MEMORY
export_mark (exports.Global global) = EXTERNAL_GLOBAL

abbrev pub export_index : ExportKind → ℕ
export_index (exports.Func func) = func
export_index (exports.Table table) = table
export_index (exports.Memory memory) = memory
export_index (exports.Global global) = global

abbrev pub EncodesExportKind : List ℕ → ExportKind → Type 0
EncodesExportKind bytes kind = Marked (export_mark kind) EncodesU32 bytes (export_index kind)

abbrev pub EncodesExport : List ℕ → Export → Type 0
EncodesExport bytes e = (EncodesName then EncodesExportKind) bytes (e.name, e.kind)

-- An element segment (Core 1.0, 5.5.12): its table, its offset and its functions. The replay form has the first and the
-- fourth case of Core 2.0, 5.5.12: a segment of table 0, and a declared one, which begins with the u32 3.
abbrev pub EncodesElemSeg : Form → List ℕ → ElemSeg → Type 0
EncodesElemSeg forms.Core bytes (Active table offset funcs) =
    (EncodesU32 then EncodesExpr forms.Core then EncodesIndices) bytes (table, (offset, funcs))
EncodesElemSeg forms.Core bytes (Declared funcs) = ⊥
EncodesElemSeg forms.Replay bytes (Active table offset funcs) =
    (table ≡ 0) × (EncodesU32 then EncodesExpr forms.Replay then EncodesIndices) bytes (table, (offset, funcs))
EncodesElemSeg forms.Replay bytes (Declared funcs) =
    (EncodesU32 then Marked ELEMENT_FUNCS EncodesIndices) bytes (ELEMENT_DECLARED, funcs)

-- a data segment: its memory, its offset and its bytes (Core 1.0, 5.5.14)
abbrev pub EncodesDataSeg : Form → List ℕ → DataSeg → Type 0
EncodesDataSeg form bytes d = (EncodesU32 then EncodesExpr form then EncodesBytes) bytes (d.memory, (d.offset, d.bytes))

-- ---- code (Core 1.0, 5.5.13)

-- a number of locals of one type
abbrev pub EncodesRun : List ℕ → Run → Type 0
EncodesRun bytes run = (EncodesU32 then EncodesValType) bytes (run.count, run.ty)

-- the types of the locals, one by one
abbrev pub each_local : List Run → List ValType
each_local = flat_map (λ run. replicate run.count run.ty)

-- each run has locals, and no neighbours are of one type: so each list of types has only these runs
abbrev pub AreRuns : List Run → Type 0
AreRuns [] = Unit {0}
AreRuns (r ∷ []) = 0 < r.count
AreRuns (r ∷ s ∷ rest) = (0 < r.count) × (r.ty ≢ s.ty) × AreRuns (s ∷ rest)

-- the locals of a function, fewer than 2^32; written runs may have no locals, or neighbours of one type
pub record EncodesLocals (bytes : List ℕ) (locals : List Run) : Type 0 where
  pub written : List Run
  pub vector : VectorOf EncodesRun bytes written
  pub few : sum_by (λ run. run.count) written < 2 ^ 32
  pub are_runs : AreRuns locals
  pub same : each_local locals ≡ each_local written

-- the locals and the body of a function
pub record Code : Type 0 where
  pub locals : List Run
  pub body : List Instr

abbrev pub EncodesCode : Form → List ℕ → Code → Type 0
EncodesCode form bytes code = Sized (EncodesLocals then EncodesExpr form) bytes (code.locals, code.body)

-- ---- sections

-- a section with its content (Core 1.0, 5.5.2)
pub data Section : Type 0 where
  CustomSection : (custom : Custom) → Section
  TypeSection : (types : List FuncType) → Section
  ImportSection : (imports : List Import) → Section
  FunctionSection : (types : List ℕ) → Section
  TableSection : (tables : List Limits) → Section
  MemorySection : (memories : List Limits) → Section
  GlobalSection : (globals : List Global) → Section
  ExportSection : (exports : List Export) → Section
  StartSection : (func : ℕ) → Section
  ElementSection : (elems : List ElemSeg) → Section
  CodeSection : (codes : List Code) → Section
  DataSection : (datas : List DataSeg) → Section

-- the id of a section (Core 1.0, 5.5.2)
abbrev pub id_of : Section → ℕ
id_of (CustomSection custom) = SECTION_CUSTOM
id_of (TypeSection types) = SECTION_TYPE
id_of (ImportSection imports) = SECTION_IMPORT
id_of (FunctionSection types) = SECTION_FUNCTION
id_of (TableSection tables) = SECTION_TABLE
id_of (MemorySection memories) = SECTION_MEMORY
id_of (GlobalSection globals) = SECTION_GLOBAL
id_of (ExportSection exports) = SECTION_EXPORT
id_of (StartSection func) = SECTION_START
id_of (ElementSection elems) = SECTION_ELEMENT
id_of (CodeSection codes) = SECTION_CODE
id_of (DataSection datas) = SECTION_DATA

-- what a section holds (Core 1.0, 5.5.3 to 5.5.14)
abbrev pub EncodesContent : Form → List ℕ → Section → Type 0
EncodesContent form bytes (CustomSection custom) = EncodesCustom bytes custom
EncodesContent form bytes (TypeSection types) = VectorOf EncodesFuncType bytes types
EncodesContent form bytes (ImportSection imports) = VectorOf EncodesImport bytes imports
EncodesContent form bytes (FunctionSection types) = EncodesIndices bytes types
EncodesContent form bytes (TableSection tables) = VectorOf EncodesTableType bytes tables
EncodesContent form bytes (MemorySection memories) = VectorOf EncodesLimits bytes memories
EncodesContent form bytes (GlobalSection globals) = VectorOf (EncodesGlobal form) bytes globals
EncodesContent form bytes (ExportSection exports) = VectorOf EncodesExport bytes exports
EncodesContent form bytes (StartSection func) = EncodesU32 bytes func
EncodesContent form bytes (ElementSection elems) = VectorOf (EncodesElemSeg form) bytes elems
EncodesContent form bytes (CodeSection codes) = VectorOf (EncodesCode form) bytes codes
EncodesContent form bytes (DataSection datas) = VectorOf (EncodesDataSeg form) bytes datas

-- a section: its id, its size, and what it holds (Core 1.0, 5.5.2)
abbrev pub EncodesSection : Form → List ℕ → Section → Type 0
EncodesSection form bytes section = Marked (id_of section) (Sized (EncodesContent form)) bytes section
