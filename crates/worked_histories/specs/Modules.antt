-- The modules of the examples, as values.
use Rattle.std.specs.Prelude.{List, [], ◌∷◌, Some, None, true, false, codes}
use Rattle.base.specs.declared.opcodes.TheConstants.{F64_ADD, I32_ADD, I32_EXTEND8_S, I32_LOAD, I32_LOAD8_U, I32_SHL, I32_STORE16, I32_STORE8, I32_SUB}
use Rattle.wasm_syntax.specs.declared.values.ValType.TheVariants.{I32, F32, F64}
use Rattle.wasm_syntax.specs.declared.signatures.FuncType.{FuncType}
use Rattle.wasm_syntax.specs.declared.signatures.Limits.{Limits}
use Rattle.wasm_syntax.specs.declared.instructions.Instr.{Instr}
use Rattle.wasm_syntax.specs.declared.instructions.Instr.TheVariants.{If, Else, End, Call, CallIndirect, Drop, LocalGet, LocalTee, GlobalGet, GlobalSet, Load, Store, MemoryGrow, MemoryCopy, MemoryFill, Const, Numeric, RefNull, RefFunc, TableGrow, TableSize, Unreachable, Nop}
use Rattle.wasm_syntax.specs.declared.modules.ImportKind.TheVariants.{Func, Global}
use Rattle.wasm_syntax.specs.declared.modules.ExportKind.TheVariants.{Func as ExportFunc, Table as ExportTable, Memory as ExportMemory, Global as ExportGlobal}
use Rattle.wasm_syntax.specs.declared.modules.ElemSeg.TheVariants.{Active}
use Rattle.wasm_syntax.specs.declared.modules.Func.{Func as DefinedFunc}
use Rattle.wasm_syntax.specs.declared.modules.Module.{Module}
use Rattle.wasm_syntax.specs.EmptyModule.{empty_module}
use Rattle.worked_histories.specs.Build.{value, func_type, limits, global_type, memory_arg, import_of, export_of, run, func, global}

-- a module that imports a function of the first of these types, and exports the first of these functions
abbrev pub with_import : List FuncType → List DefinedFunc → Module
with_import types funcs =
    record empty_module {
      types = types;
      imports = import_of (codes "h") (codes "f") (Func 0) ∷ [];
      funcs = funcs;
      exports = export_of (codes "g") (ExportFunc 1) ∷ [];
    }

-- a module with such an import and such an export, and with a memory, which is exported too
abbrev pub with_memory : Limits → List FuncType → List DefinedFunc → Module
with_memory pages types funcs =
    record (with_import types funcs) {
      memories = pages ∷ [];
      exports = export_of (codes "g") (ExportFunc 1) ∷ export_of (codes "m") (ExportMemory 0) ∷ [];
    }

-- the type of a function without parameters and results
abbrev pub no_result : FuncType
no_result = func_type [] []

-- the type of a function without parameters that returns an i32
abbrev pub one_result : FuncType
one_result = func_type [] (I32 ∷ [])

-- a module that adds two answers of the host
abbrev pub two_answers : Module
two_answers =
    with_import (one_result ∷ []) (func 0 [] (Call 0 ∷ Call 0 ∷ Numeric I32_ADD ∷ End ∷ []) ∷ [])

-- a module that stores into a memory to which the host writes
abbrev pub overwrite : Module
overwrite =
    with_memory (limits 1 None) (no_result ∷ one_result ∷ [])
    (func 1 [] (Call 0 ∷ Const (value I32 8) ∷ Const (value I32 1) ∷ Store (memory_arg I32_STORE16 1 0)
    ∷ Const (value I32 8) ∷ Load (memory_arg I32_LOAD 2 0) ∷ End ∷ []) ∷ [])

-- a module that stores past the first page
abbrev pub grow_access : Module
grow_access =
    with_memory (limits 1 None) (no_result ∷ [])
    (func 0 [] (Call 0 ∷ Const (value I32 65536) ∷ Const (value I32 9) ∷ Store (memory_arg I32_STORE8 0 0)
    ∷ End ∷ []) ∷ [])

-- a module that copies what the host writes, and loads it with its sign
abbrev pub copy_load : Module
copy_load =
    record overwrite {
      funcs = func 1 []
          (Call 0 ∷ Const (value I32 0) ∷ Const (value I32 8) ∷ Const (value I32 4) ∷ MemoryCopy
          ∷ Const (value I32 0) ∷ Load (memory_arg I32_LOAD 2 0) ∷ Numeric I32_EXTEND8_S ∷ End ∷ []) ∷ [];
    }

-- a module that copies bytes onto some of themselves, and fills with a number greater than a byte
abbrev pub copy_overlap : Module
copy_overlap =
    record overwrite {
      funcs = func 1 []
          (Call 0 ∷ Const (value I32 9) ∷ Const (value I32 8) ∷ Const (value I32 3) ∷ MemoryCopy
          ∷ Const (value I32 10) ∷ Const (value I32 0x1A5) ∷ Const (value I32 1) ∷ MemoryFill
          ∷ Const (value I32 8) ∷ Load (memory_arg I32_LOAD 2 0) ∷ End ∷ []) ∷ [];
    }

-- a module that fills past the first page
abbrev pub fill_past : Module
fill_past =
    record grow_access {
      funcs = func 0 []
          (Call 0 ∷ Const (value I32 65535) ∷ Const (value I32 7) ∷ Const (value I32 2) ∷ MemoryFill
          ∷ End ∷ []) ∷ [];
    }

-- a module that grows a memory of at most ten pages by three
abbrev pub grow_failed : Module
grow_failed =
    with_memory (limits 4 (Some 10)) (no_result ∷ one_result ∷ [])
    (func 1 [] (Call 0 ∷ Const (value I32 3) ∷ MemoryGrow ∷ End ∷ []) ∷ [])

-- two functions: the first calls the import and adds a byte of the memory, the second has this body
abbrev pub byte_adders : List Instr → List DefinedFunc
byte_adders second =
    func 0 [] (Call 0 ∷ Const (value I32 0) ∷ Load (memory_arg I32_LOAD8_U 0 0) ∷ Numeric I32_ADD ∷ End ∷ [])
    ∷ func 0 [] second ∷ []

-- a module whose second function the host may call inside the call of an import
abbrev pub nested_call : Module
nested_call =
    record (with_memory (limits 1 None) (one_result ∷ []) (byte_adders (Call 0 ∷ End ∷ []))) {
      exports =
          export_of (codes "g") (ExportFunc 1) ∷ export_of (codes "e") (ExportFunc 2)
          ∷ export_of (codes "m") (ExportMemory 0) ∷ [];
    }

-- a module like `nested_call`, whose second function traps
abbrev pub nested_trap : Module
nested_trap = record nested_call { funcs = byte_adders (Unreachable ∷ Numeric I32_ADD ∷ End ∷ []) }

-- the functions of a module with a table: one with this body, one that returns 7, and one that returns nothing
abbrev pub table_funcs : List Instr → List DefinedFunc
table_funcs body =
    func 1 [] body ∷ func 1 [] (Const (value I32 7) ∷ End ∷ []) ∷ func 0 [] (End ∷ []) ∷ []

-- a module that calls a function by a table that the host changes
abbrev pub table_entry : Module
table_entry =
    record (with_import (no_result ∷ one_result ∷ [])
    (table_funcs (Call 0 ∷ Const (value I32 0) ∷ CallIndirect 1 ∷ End ∷ []))) {
      tables = limits 2 None ∷ [];
      exports =
          export_of (codes "g") (ExportFunc 1) ∷ export_of (codes "b") (ExportFunc 3)
          ∷ export_of (codes "t") (ExportTable 0) ∷ [];
      elems = Active 0 (Const (value I32 0) ∷ End ∷ []) (2 ∷ []) ∷ [];
    }

-- a module like `table_entry`, with an index past the table
abbrev pub table_growth : Module
table_growth =
    record table_entry { funcs = table_funcs (Call 0 ∷ Const (value I32 5) ∷ CallIndirect 1 ∷ End ∷ []) }

-- a module that grows a table of at most four entries by two that hold a function, then by one, and calls the last
abbrev pub table_sizes : Module
table_sizes =
    record empty_module {
      types = func_type [] (I32 ∷ []) ∷ [];
      funcs = func 0 []
          (RefFunc 1 ∷ Const (value I32 2) ∷ TableGrow 0 ∷ RefNull ∷ Const (value I32 1) ∷ TableGrow 0
          ∷ Numeric I32_ADD ∷ TableSize 0 ∷ Numeric I32_ADD ∷ Const (value I32 3) ∷ CallIndirect 0
          ∷ Numeric I32_ADD ∷ End ∷ []) ∷ func 0 []
          (Const (value I32 7) ∷ End ∷ []) ∷ [];
      tables = limits 2 (Some 4) ∷ [];
      exports = export_of (codes "g") (ExportFunc 0) ∷ export_of (codes "e") (ExportFunc 1) ∷ [];
    }

-- a module that reads a global that the host sets
abbrev pub float_global : Module
float_global =
    record (with_import (no_result ∷ func_type [] (F32 ∷ []) ∷ [])
    (func 1 [] (Call 0 ∷ GlobalGet 0 ∷ End ∷ []) ∷ [])) {
      globals = global (global_type F32 true) (Const (value F32 0) ∷ End ∷ []) ∷ [];
      exports = export_of (codes "g") (ExportFunc 1) ∷ export_of (codes "x") (ExportGlobal 0) ∷ [];
    }

-- a module whose data segment has an imported global as its offset
abbrev pub imported_offset : Module
imported_offset =
    record empty_module {
      types = func_type [] (I32 ∷ []) ∷ [];
      imports = import_of (codes "h") (codes "b") (Global (global_type I32 false)) ∷ [];
      funcs = func 0 []
          (Const (value I32 16) ∷ Load (memory_arg I32_LOAD8_U 0 0) ∷ End ∷ []) ∷ [];
      memories = limits 1 None ∷ [];
      exports = export_of (codes "g") (ExportFunc 0) ∷ [];
      datas = record { memory = 0; offset = GlobalGet 0 ∷ End ∷ []; bytes = 65 ∷ [] } ∷ [];
    }

-- a module that adds floats in a body that nothing calls
abbrev pub float_body : Module
float_body =
    record empty_module {
      types = func_type [] [] ∷ [];
      funcs = func 0 []
          (End ∷ []) ∷ func 0 []
          (End ∷ []) ∷ func 0 []
          (Nop ∷ Const (value F64 0) ∷ Const (value F64 0) ∷ Numeric F64_ADD ∷ Drop ∷ End ∷ []) ∷ [];
    }

-- a module that reads into buffers on a stack in memory, as code compiled from C does
abbrev pub c_buffers : Module
c_buffers =
    record empty_module {
      types =
          func_type (I32 ∷ I32 ∷ I32 ∷ []) (I32 ∷ [])
          ∷ func_type (I32 ∷ []) (I32 ∷ []) ∷ func_type [] (I32 ∷ []) ∷ [];
      imports = import_of (codes "env") (codes "read") (Func 0) ∷ [];
      funcs = func 2 (run 1 I32 ∷ [])
          (GlobalGet 0 ∷ Const (value I32 16) ∷ Numeric I32_SUB ∷ LocalTee 0 ∷ GlobalSet 0 ∷ LocalGet 0
          ∷ Const (value I32 4) ∷ LocalGet 0 ∷ Const (value I32 8) ∷ Numeric I32_ADD ∷ Call 0 ∷ Drop
          ∷ LocalGet 0 ∷ Load (memory_arg I32_LOAD 2 0) ∷ LocalGet 0 ∷ Load (memory_arg I32_LOAD 2 8)
          ∷ Numeric I32_ADD ∷ Const (value I32 1) ∷ CallIndirect 1 ∷ LocalGet 0 ∷ Const (value I32 16)
          ∷ Numeric I32_ADD ∷ GlobalSet 0 ∷ End ∷ []) ∷ func 1 []
          (LocalGet 0 ∷ Const (value I32 1) ∷ Numeric I32_SHL ∷ End ∷ []) ∷ [];
      tables = limits 2 (Some 2) ∷ [];
      memories = limits 2 None ∷ [];
      globals = global (global_type I32 true) (Const (value I32 66560) ∷ End ∷ []) ∷ [];
      exports = export_of (codes "memory") (ExportMemory 0) ∷ export_of (codes "run") (ExportFunc 1) ∷ [];
      elems = Active 0 (Const (value I32 1) ∷ End ∷ []) (2 ∷ []) ∷ [];
    }

-- the replay module of `two_answers`
abbrev pub replay_two_answers : Module
replay_two_answers =
    record empty_module {
      types = func_type [] (I32 ∷ []) ∷ func_type [] [] ∷ [];
      funcs = func 0 []
          (GlobalGet 0 ∷ GlobalGet 0 ∷ Const (value I32 1) ∷ Numeric I32_ADD ∷ GlobalSet 0 ∷ If (Some I32)
          ∷ Const (value I32 7) ∷ Else ∷ Const (value I32 5) ∷ End ∷ End ∷ []) ∷ func 0 []
          (Call 0 ∷ Call 0 ∷ Numeric I32_ADD ∷ End ∷ []) ∷ func 1 []
          (Call 1 ∷ Drop ∷ End ∷ []) ∷ [];
      globals = global (global_type I32 true) (Const (value I32 0) ∷ End ∷ []) ∷ [];
      exports = export_of (codes "_start") (ExportFunc 2) ∷ [];
      customs = record { name = codes "r3.layout"; bytes = 1 ∷ 1 ∷ [] } ∷ [];
    }
