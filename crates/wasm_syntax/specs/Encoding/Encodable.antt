-- What has an encoding, if counts and sizes may be any numbers (Core 1.0, 5): its numbers fit, its names are text,
-- its bodies are nests, and it has only what its form spells.
use Rattle.std.specs.Prelude.{◌≡◌, ℕ, ◌^◌, ◌<◌, List, Option, Some, None, IfSome, IsTrue, IsUtf8, sum_by}
use Rattle.std.specs.List.{AllByRecursion}
use Rattle.base.specs.declared.opcodes.TheConstants.{I32_LOAD, I64_LOAD32_U, I32_STORE, I64_STORE32, I32_EQZ, I64_EXTEND32_S}
use Rattle.wasm_syntax.specs.Nest.{Nest, IsBody}
use Rattle.wasm_syntax.specs.Opcodes.{is_from}
use Rattle.wasm_syntax.specs.Encoding.Instructions.{IsReplay}
use Rattle.wasm_syntax.specs.Encoding.Sections.{AreRuns}
use Rattle.wasm_syntax.specs.declared.forms.Form.{Form}
use Rattle.wasm_syntax.specs.declared.forms.Form.TheVariants as forms
use Rattle.wasm_syntax.specs.declared.values.ValType.{ValType}
use Rattle.wasm_syntax.specs.declared.values.ValType.TheVariants.{I32, I64, F32, F64, FuncRef}
use Rattle.wasm_syntax.specs.declared.signatures.FuncType.{FuncType}
use Rattle.wasm_syntax.specs.declared.signatures.Limits.{Limits}
use Rattle.wasm_syntax.specs.declared.instructions.MemArg.{MemArg}
use Rattle.wasm_syntax.specs.declared.instructions.Instr.{Instr}
use Rattle.wasm_syntax.specs.declared.instructions.Instr.TheVariants.{Block, Loop, If, Br, BrIf, BrTable, Call, CallIndirect, LocalGet, LocalSet, LocalTee, GlobalGet, GlobalSet, Load, Store, Const, Numeric, RefNull, RefFunc, TableSet, TableGrow, TableSize}
use Rattle.wasm_syntax.specs.declared.modules.Import.{Import}
use Rattle.wasm_syntax.specs.declared.modules.ImportKind.{ImportKind}
use Rattle.wasm_syntax.specs.declared.modules.ImportKind.TheVariants as imports
use Rattle.wasm_syntax.specs.declared.modules.Export.{Export}
use Rattle.wasm_syntax.specs.declared.modules.ExportKind.{ExportKind}
use Rattle.wasm_syntax.specs.declared.modules.ExportKind.TheVariants as exports
use Rattle.wasm_syntax.specs.declared.modules.Run.{Run}
use Rattle.wasm_syntax.specs.declared.modules.Func.{Func}
use Rattle.wasm_syntax.specs.declared.modules.Global.{Global}
use Rattle.wasm_syntax.specs.declared.modules.ElemSeg.{ElemSeg}
use Rattle.wasm_syntax.specs.declared.modules.ElemSeg.TheVariants.{Active, Declared}
use Rattle.wasm_syntax.specs.declared.modules.DataSeg.{DataSeg}
use Rattle.wasm_syntax.specs.declared.modules.Module.{Module}

abbrev pub FitsU32 : ℕ → Type 0
FitsU32 n = n < 2 ^ 32

-- ---- types (Core 1.0, 5.3)

abbrev pub FitsValType : ValType → Type 0
FitsValType FuncRef = ⊥
FitsValType ty = Unit {0}

abbrev pub FitsBlockType : Option ValType → Type 0
FitsBlockType None = Unit {0}
FitsBlockType (Some ty) = FitsValType ty

abbrev pub FitsFuncType : FuncType → Type 0
FitsFuncType ty = AllByRecursion FitsValType ty.params × AllByRecursion FitsValType ty.results

abbrev pub FitsBounds : ℕ → Option ℕ → Type 0
FitsBounds least None = FitsU32 least
FitsBounds least (Some most) = FitsU32 least × FitsU32 most

abbrev pub FitsLimits : Limits → Type 0
FitsLimits limits = FitsBounds limits.min limits.max

-- ---- instructions (Core 1.0, 5.4; Core 2.0, 5.4)

abbrev pub FitsConst : ValType → ℕ → Type 0
FitsConst I32 bits = bits < 2 ^ 32
FitsConst I64 bits = bits < 2 ^ 64
FitsConst F32 bits = bits < 2 ^ 32
FitsConst F64 bits = bits < 2 ^ 64
FitsConst FuncRef bits = ⊥

abbrev pub FitsMemArg : MemArg → Type 0
FitsMemArg access = FitsU32 access.align × FitsU32 access.offset

abbrev pub FitsInstr : Form → Instr → Type 0
FitsInstr form (Block ty) = FitsBlockType ty
FitsInstr form (Loop ty) = FitsBlockType ty
FitsInstr form (If ty) = FitsBlockType ty
FitsInstr form (Br label) = FitsU32 label
FitsInstr form (BrIf label) = FitsU32 label
FitsInstr form (BrTable labels default) = AllByRecursion FitsU32 labels × FitsU32 default
FitsInstr form (Call func) = FitsU32 func
FitsInstr form (CallIndirect ty) = FitsU32 ty
FitsInstr form (LocalGet local) = FitsU32 local
FitsInstr form (LocalSet local) = FitsU32 local
FitsInstr form (LocalTee local) = FitsU32 local
FitsInstr form (GlobalGet global) = FitsU32 global
FitsInstr form (GlobalSet global) = FitsU32 global
FitsInstr form (Load access) = IsTrue (is_from I32_LOAD I64_LOAD32_U access.op) × FitsMemArg access
FitsInstr form (Store access) = IsTrue (is_from I32_STORE I64_STORE32 access.op) × FitsMemArg access
FitsInstr form (Const value) = FitsConst value.ty value.bits
FitsInstr form (Numeric op) = IsTrue (is_from I32_EQZ I64_EXTEND32_S op)
FitsInstr form (TableSet table) = IsReplay form × FitsU32 table
FitsInstr form RefNull = IsReplay form
FitsInstr form (RefFunc func) = IsReplay form × FitsU32 func
FitsInstr form (TableGrow table) = IsReplay form × FitsU32 table
FitsInstr form (TableSize table) = IsReplay form × FitsU32 table
FitsInstr form other = Unit {0}

pub record FitsBody (form : Form) (body : List Instr) : Type 0 where
  pub instructions : AllByRecursion (FitsInstr form) body
  pub nest : Nest
  pub is_body : IsBody nest body

-- ---- sections (Core 1.0, 5.5)

abbrev pub FitsImportKind : ImportKind → Type 0
FitsImportKind (imports.Func ty) = FitsU32 ty
FitsImportKind (imports.Table limits) = FitsLimits limits
FitsImportKind (imports.Memory limits) = FitsLimits limits
FitsImportKind (imports.Global ty) = FitsValType ty.ty

abbrev pub FitsImport : Import → Type 0
FitsImport i = IsUtf8 i.module × IsUtf8 i.name × FitsImportKind i.kind

abbrev pub FitsRun : Run → Type 0
FitsRun run = FitsU32 run.count × FitsValType run.ty

abbrev pub FitsLocals : List Run → Type 0
FitsLocals locals = AreRuns locals × AllByRecursion FitsRun locals × (sum_by (λ run. run.count) locals < 2 ^ 32)

abbrev pub FitsFunc : Form → Func → Type 0
FitsFunc form func = FitsU32 func.ty × FitsLocals func.locals × FitsBody form func.body

abbrev pub FitsGlobal : Form → Global → Type 0
FitsGlobal form g = FitsValType g.ty.ty × FitsBody form g.init

abbrev pub FitsExportKind : ExportKind → Type 0
FitsExportKind (exports.Func func) = FitsU32 func
FitsExportKind (exports.Table table) = FitsU32 table
FitsExportKind (exports.Memory memory) = FitsU32 memory
FitsExportKind (exports.Global global) = FitsU32 global

abbrev pub FitsExport : Export → Type 0
FitsExport e = IsUtf8 e.name × FitsExportKind e.kind

abbrev pub FitsElemSeg : Form → ElemSeg → Type 0
FitsElemSeg forms.Core (Active table offset funcs) =
    FitsU32 table × FitsBody forms.Core offset × AllByRecursion FitsU32 funcs
FitsElemSeg forms.Core (Declared funcs) = ⊥
FitsElemSeg forms.Replay (Active table offset funcs) =
    (table ≡ 0) × FitsBody forms.Replay offset × AllByRecursion FitsU32 funcs
FitsElemSeg forms.Replay (Declared funcs) = AllByRecursion FitsU32 funcs

abbrev pub FitsDataSeg : Form → DataSeg → Type 0
FitsDataSeg form d = FitsU32 d.memory × FitsBody form d.offset

-- a module has an encoding in the form, if counts and sizes may be any numbers (Core 1.0, 5.5.15)
pub record IsEncodable (form : Form) (m : Module) : Type 0 where
  pub types : AllByRecursion FitsFuncType m.types
  pub imports : AllByRecursion FitsImport m.imports
  pub funcs : AllByRecursion (FitsFunc form) m.funcs
  pub tables : AllByRecursion FitsLimits m.tables
  pub memories : AllByRecursion FitsLimits m.memories
  pub globals : AllByRecursion (FitsGlobal form) m.globals
  pub exports : AllByRecursion FitsExport m.exports
  pub start : IfSome m.start FitsU32
  pub elems : AllByRecursion (FitsElemSeg form) m.elems
  pub datas : AllByRecursion (FitsDataSeg form) m.datas
  pub customs : AllByRecursion (λ custom. IsUtf8 custom.name) m.customs
