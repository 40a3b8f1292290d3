-- No encoding of an item is empty.
use Rattle.std.specs.Prelude.{◌<◌, length, IsUtf8}
use Rattle.std.proofs.Common.{arith}
use Rattle.wasm_syntax.specs.Encoding.Encodable.{FitsDataSeg, FitsElemSeg, FitsExport, FitsFunc, FitsFuncType, FitsGlobal, FitsImport, FitsInstr, FitsRun}
use Rattle.wasm_syntax.specs.Encoding.Modules.{code_of}
use Rattle.wasm_syntax.specs.Encoding.Sections.{CustomSection}
use Rattle.wasm_syntax.specs.Encoding.Shortest.{code_bytes, data_bytes, elem_bytes, export_bytes, func_type_bytes, global_bytes, import_bytes, instr_bytes, run_bytes, section_bytes}
use Rattle.wasm_syntax.specs.declared.forms.Form.TheVariants as forms
use Rattle.wasm_syntax.specs.declared.modules.Custom.{Custom}
use Rattle.wasm_syntax.specs.declared.modules.DataSeg.{DataSeg}
use Rattle.wasm_syntax.specs.declared.modules.ElemSeg.{ElemSeg}
use Rattle.wasm_syntax.specs.declared.modules.Export.{Export}
use Rattle.wasm_syntax.specs.declared.modules.Func.{Func}
use Rattle.wasm_syntax.specs.declared.modules.Global.{Global}
use Rattle.wasm_syntax.specs.declared.modules.Import.{Import}
use Rattle.wasm_syntax.specs.declared.modules.Run.{Run}
use Rattle.wasm_syntax.specs.declared.signatures.FuncType.{FuncType}
use Rattle.wasm_syntax.specs.declared.instructions.Instr.{Instr}
use Rattle.wasm_syntax.proofs.Encoding.NotEmpty.{code_bytes_some, data_bytes_some, elem_bytes_some, export_bytes_some, func_type_bytes_some, global_bytes_some, import_bytes_some, instr_bytes_some, run_bytes_some}

pub func_type_some : (ty : FuncType) → FitsFuncType ty → 0 < length (func_type_bytes ty)
func_type_some ty fits = func_type_bytes_some ty

pub instr_some : (instr : Instr) → FitsInstr forms.Replay instr → 0 < length (instr_bytes instr)
instr_some instr fits = instr_bytes_some forms.Replay instr fits

pub run_some : (run : Run) → FitsRun run → 0 < length (run_bytes run)
run_some run fits = run_bytes_some run

pub code_some : (func : Func) → FitsFunc forms.Replay func → 0 < length (code_bytes (code_of func))
code_some func fits = code_bytes_some (code_of func)

pub import_some : (i : Import) → FitsImport i → 0 < length (import_bytes i)
import_some i fits = import_bytes_some i

pub global_some : (g : Global) → FitsGlobal forms.Replay g → 0 < length (global_bytes g)
global_some g fits = global_bytes_some g

pub export_some : (e : Export) → FitsExport e → 0 < length (export_bytes e)
export_some e fits = export_bytes_some e

pub elem_some : (elem : ElemSeg) → FitsElemSeg forms.Replay elem → 0 < length (elem_bytes elem)
elem_some elem fits = elem_bytes_some elem

pub data_some : (d : DataSeg) → FitsDataSeg forms.Replay d → 0 < length (data_bytes d)
data_some d fits = data_bytes_some d

pub custom_some : (custom : Custom) → IsUtf8 custom.name → 0 < length (section_bytes (CustomSection custom))
unfolding section_bytes
custom_some custom fits = omega arith
