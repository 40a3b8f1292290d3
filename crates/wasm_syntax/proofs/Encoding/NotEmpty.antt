-- No encoding of an item is empty.
use Rattle.std.proofs.Common.{ℕ, ◌<◌, ◌∷◌, ◌++◌, length, Option, Some, None, arith}
use Rattle.std.proofs.lemmas.List.{length-append}
use Rattle.leb_bytes.specs.Unsigned.{u32_bytes}
use Rattle.wasm_syntax.specs.declared.forms.Form.{Form}
use Rattle.wasm_syntax.specs.declared.values.ValType.{ValType}
use Rattle.wasm_syntax.specs.declared.values.ValType.TheVariants.{I32, I64, F32, F64, FuncRef}
use Rattle.wasm_syntax.specs.declared.signatures.FuncType.{FuncType}
use Rattle.wasm_syntax.specs.declared.signatures.Limits.{Limits}
use Rattle.wasm_syntax.specs.declared.instructions.Instr.{Instr}
use Rattle.wasm_syntax.specs.declared.instructions.Instr.TheVariants.{Const}
use Rattle.wasm_syntax.specs.declared.modules.Import.{Import}
use Rattle.wasm_syntax.specs.declared.modules.Export.{Export}
use Rattle.wasm_syntax.specs.declared.modules.Global.{Global}
use Rattle.wasm_syntax.specs.declared.modules.ElemSeg.{ElemSeg}
use Rattle.wasm_syntax.specs.declared.modules.ElemSeg.TheVariants.{Active, Declared}
use Rattle.wasm_syntax.specs.declared.modules.DataSeg.{DataSeg}
use Rattle.wasm_syntax.specs.declared.modules.Run.{Run}
use Rattle.wasm_syntax.specs.Encoding.Sections.{Code}
use Rattle.wasm_syntax.specs.Encoding.Encodable.{FitsConst, FitsInstr}
use Rattle.wasm_syntax.specs.Encoding.Shortest.{sized_bytes, vector_bytes, val_type_bytes, func_type_bytes, bounds_bytes, limits_bytes, table_type_bytes, global_type_bytes, const_bytes, instr_bytes, run_bytes, body_bytes, import_kind_bytes, import_bytes, global_bytes, export_kind_bytes, export_bytes, elem_bytes, data_bytes, code_bytes}
use Rattle.wasm_syntax.proofs.Encoding.Writing.{u32_some}
use Rattle.wasm_syntax.proofs.Encoding.BestItems.{sized_some}

-- ---- instructions and runs of locals

const_bytes_some : (ty : ValType) (bits : ℕ) → FitsConst ty bits → 0 < length (const_bytes ty bits)
unfolding const_bytes
const_bytes_some I32 bits fits = omega arith
const_bytes_some I64 bits fits = omega arith
const_bytes_some F32 bits fits = omega arith
const_bytes_some F64 bits fits = omega arith
const_bytes_some FuncRef bits fits = absurd fits

pub instr_bytes_some : (form : Form) (i : Instr) → FitsInstr form i → 0 < length (instr_bytes i)
unfolding instr_bytes
instr_bytes_some form (Const value) fits = const_bytes_some value.ty value.bits fits
instr_bytes_some form i fits = omega arith

pub run_bytes_some : (x : Run) → 0 < length (run_bytes x)
run_bytes_some x = omega (arith, length-append (u32_bytes x.count) (val_type_bytes x.ty), u32_some x.count)

-- ---- items of sections

pub func_type_bytes_some : (x : FuncType) → 0 < length (func_type_bytes x)
unfolding func_type_bytes
func_type_bytes_some x = omega arith

pub import_bytes_some : (x : Import) → 0 < length (import_bytes x)
unfolding import_bytes
import_bytes_some x = omega (arith, length-append (sized_bytes x.module) (sized_bytes x.name ++ import_kind_bytes x.kind), sized_some x.module)

pub table_type_bytes_some : (x : Limits) → 0 < length (table_type_bytes x)
table_type_bytes_some x = omega arith

bounds_some : (least : ℕ) (most : Option ℕ) → 0 < length (bounds_bytes least most)
bounds_some least None = omega arith
bounds_some least (Some most) = omega arith

pub limits_bytes_some : (x : Limits) → 0 < length (limits_bytes x)
unfolding limits_bytes
limits_bytes_some x = bounds_some x.min x.max

pub global_bytes_some : (x : Global) → 0 < length (global_bytes x)
unfolding global_bytes global_type_bytes
global_bytes_some x = omega arith

pub export_bytes_some : (x : Export) → 0 < length (export_bytes x)
unfolding export_bytes
export_bytes_some x = omega (arith, length-append (sized_bytes x.name) (export_kind_bytes x.kind), sized_some x.name)

pub elem_bytes_some : (x : ElemSeg) → 0 < length (elem_bytes x)
unfolding elem_bytes
elem_bytes_some (Active table offset funcs) =
    omega (arith, length-append (u32_bytes table) (body_bytes offset ++ vector_bytes u32_bytes funcs), u32_some table)
elem_bytes_some (Declared funcs) =
    omega (arith, length-append (u32_bytes 3) (0x00 ∷ vector_bytes u32_bytes funcs), u32_some 3)

pub code_bytes_some : (x : Code) → 0 < length (code_bytes x)
unfolding code_bytes
code_bytes_some x = sized_some _

pub data_bytes_some : (x : DataSeg) → 0 < length (data_bytes x)
unfolding data_bytes
data_bytes_some x =
    omega (arith, length-append (u32_bytes x.memory) (body_bytes x.offset ++ sized_bytes x.bytes), u32_some x.memory)
