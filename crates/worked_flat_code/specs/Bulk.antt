-- Modules that copy and fill bytes, and that grow a table.
use Rattle.std.specs.Prelude.{[], ◌∷◌, Some, codes}
use Rattle.base.specs.declared.opcodes.TheConstants.{I32_ADD, I32_LOAD, I32_MUL, I32_SUB}
use Rattle.wasm_syntax.specs.declared.values.ValType.TheVariants.{I32}
use Rattle.wasm_syntax.specs.declared.instructions.Instr.TheVariants.{If, Else, End, CallIndirect, LocalGet, Load, MemoryCopy, MemoryFill, Const, Numeric, RefFunc, TableGrow, TableSize}
use Rattle.wasm_syntax.specs.declared.modules.ExportKind.TheVariants.{Func as ExportFunc}
use Rattle.wasm_syntax.specs.declared.modules.Module.{Module}
use Rattle.worked_histories.specs.Build.{i32, limits, memory_arg, export_of}
use Rattle.worked_flat_code.specs.Loops.{one_function}

-- a module that fills three bytes, copies four onto a place that overlaps theirs, and copies to the last byte as many
-- as the argument gives
abbrev pub copies : Module
copies =
    one_function []
    (Const (i32 10) ∷ Const (i32 427) ∷ Const (i32 3) ∷ MemoryFill ∷ Const (i32 11) ∷ Const (i32 9) ∷ Const (i32 4)
    ∷ MemoryCopy
    ∷ Const (i32 65535) ∷ Const (i32 10) ∷ LocalGet 0 ∷ MemoryCopy ∷ Const (i32 11) ∷ Load (memory_arg I32_LOAD 0 0)
    ∷ End ∷ [])

-- a module that grows a table of at most four entries by the argument, each new entry with the function itself, and
-- calls the last entry with 0, which answers at once
abbrev pub grows : Module
grows =
    record (one_function []
    (LocalGet 0 ∷ If (Some I32) ∷ RefFunc 0 ∷ LocalGet 0 ∷ TableGrow 0 ∷ TableSize 0 ∷ Numeric I32_MUL
    ∷ Const (i32 0)
    ∷ TableSize 0 ∷ Const (i32 1) ∷ Numeric I32_SUB ∷ CallIndirect 0 ∷ Numeric I32_ADD ∷ Else ∷ Const (i32 1000)
    ∷ End ∷ End ∷ [])) {
      tables = limits 1 (Some 4) ∷ [];
      exports = export_of (codes "g") (ExportFunc 0) ∷ [];
    }
