-- Modules from binaries, for the examples.
use Rattle.std.proofs.Common.{ℕ, List, [], ◌∷◌, Option, Some, None, true, false}
use Rattle.std.specs.Prelude.{codes}
use Rattle.wasm_syntax.specs.declared.values.ValType.{ValType}
use Rattle.wasm_syntax.specs.declared.values.ValType.TheVariants.{I32, F32, F64}
use Rattle.wasm_syntax.specs.declared.signatures.FuncType.{FuncType}
use Rattle.wasm_syntax.specs.declared.signatures.Limits.{Limits}
use Rattle.wasm_syntax.specs.declared.instructions.Instr.{Instr}
use Rattle.wasm_syntax.specs.declared.instructions.Instr.TheVariants.{Nop, If, Else, End, Call, CallIndirect, Drop, LocalGet, LocalTee, GlobalGet, GlobalSet, Load, Store, MemoryGrow, Const, Numeric}
use Rattle.wasm_syntax.specs.declared.modules.Module.{Module}
use Rattle.wasm_syntax.specs.declared.modules.ImportKind.TheVariants as import
use Rattle.wasm_syntax.specs.declared.modules.ExportKind.TheVariants.{Func, Table, Memory, Global}
use Rattle.wasm_syntax.specs.declared.modules.ElemSeg.TheVariants.{Active}
use Rattle.wasm_syntax.specs.EmptyModule.{empty_module}

abbrev pub func_type : List ValType → List ValType → FuncType
func_type params results = record { params = params; results = results }

abbrev pub limits : ℕ → Option ℕ → Limits
limits min max = record { min = min; max = max }

abbrev pub constant : ValType → ℕ → Instr
constant ty bits = Const (record { ty = ty; bits = bits })

abbrev pub load : ℕ → ℕ → ℕ → Instr
load op align offset = Load (record { op = op; align = align; offset = offset })

abbrev pub store : ℕ → ℕ → ℕ → Instr
store op align offset = Store (record { op = op; align = align; offset = offset })

-- a function that adds two answers of an import
abbrev pub two_answers : Module
two_answers = record empty_module {
  types = func_type [] (I32 ∷ []) ∷ [];
  imports = record { «module» = codes "h"; name = codes "f"; kind = import.Func 0 } ∷ [];
  funcs = record { ty = 0; locals = []; body = Call 0 ∷ Call 0 ∷ Numeric 0x6A ∷ End ∷ [] } ∷ [];
  exports = record { name = codes "g"; kind = Func 1 } ∷ [];
}

-- two bytes are written, and read within four
abbrev pub overwrite : Module
overwrite = record empty_module {
  types =
      func_type [] []
      ∷ func_type [] (I32 ∷ [])
      ∷ [];
  imports = record { «module» = codes "h"; name = codes "f"; kind = import.Func 0 } ∷ [];
  funcs = record { ty = 1; locals = []; body = Call 0 ∷ constant I32 8 ∷ constant I32 1 ∷ store 0x3B 1 0 ∷ constant I32 8 ∷ load 0x28 2 0 ∷ End ∷ [] } ∷ [];
  memories = limits 1 None ∷ [];
  exports =
      record { name = codes "g"; kind = Func 1 }
      ∷ record { name = codes "m"; kind = Memory 0 }
      ∷ [];
}

-- a store past the first page
abbrev pub grow_access : Module
grow_access = record empty_module {
  types = func_type [] [] ∷ [];
  imports = record { «module» = codes "h"; name = codes "f"; kind = import.Func 0 } ∷ [];
  funcs = record { ty = 0; locals = []; body = Call 0 ∷ constant I32 65536 ∷ constant I32 9 ∷ store 0x3A 0 0 ∷ End ∷ [] } ∷ [];
  memories = limits 1 None ∷ [];
  exports =
      record { name = codes "g"; kind = Func 1 }
      ∷ record { name = codes "m"; kind = Memory 0 }
      ∷ [];
}

-- a growth past the maximum
abbrev pub grow_failed : Module
grow_failed = record empty_module {
  types =
      func_type [] []
      ∷ func_type [] (I32 ∷ [])
      ∷ [];
  imports = record { «module» = codes "h"; name = codes "f"; kind = import.Func 0 } ∷ [];
  funcs = record { ty = 1; locals = []; body = Call 0 ∷ constant I32 3 ∷ MemoryGrow ∷ End ∷ [] } ∷ [];
  memories = limits 4 (Some 10) ∷ [];
  exports =
      record { name = codes "g"; kind = Func 1 }
      ∷ record { name = codes "m"; kind = Memory 0 }
      ∷ [];
}

-- two functions that call an import
abbrev pub nested_call : Module
nested_call = record empty_module {
  types = func_type [] (I32 ∷ []) ∷ [];
  imports = record { «module» = codes "h"; name = codes "f"; kind = import.Func 0 } ∷ [];
  funcs =
      record { ty = 0; locals = []; body = Call 0 ∷ constant I32 0 ∷ load 0x2D 0 0 ∷ Numeric 0x6A ∷ End ∷ [] }
      ∷ record { ty = 0; locals = []; body = Call 0 ∷ End ∷ [] }
      ∷ [];
  memories = limits 1 None ∷ [];
  exports =
      record { name = codes "g"; kind = Func 1 }
      ∷ record { name = codes "e"; kind = Func 2 }
      ∷ record { name = codes "m"; kind = Memory 0 }
      ∷ [];
}

-- a call through an exported table
abbrev pub table_entry : Module
table_entry = record empty_module {
  types =
      func_type [] []
      ∷ func_type [] (I32 ∷ [])
      ∷ [];
  imports = record { «module» = codes "h"; name = codes "f"; kind = import.Func 0 } ∷ [];
  funcs =
      record { ty = 1; locals = []; body = Call 0 ∷ constant I32 0 ∷ CallIndirect 1 ∷ End ∷ [] }
      ∷ record { ty = 1; locals = []; body = constant I32 7 ∷ End ∷ [] }
      ∷ record { ty = 0; locals = []; body = End ∷ [] }
      ∷ [];
  tables = limits 2 None ∷ [];
  exports =
      record { name = codes "g"; kind = Func 1 }
      ∷ record { name = codes "b"; kind = Func 3 }
      ∷ record { name = codes "t"; kind = Table 0 }
      ∷ [];
  elems = Active 0 (constant I32 0 ∷ End ∷ []) (2 ∷ []) ∷ [];
}

-- an exported mutable global
abbrev pub float_global : Module
float_global = record empty_module {
  types =
      func_type [] []
      ∷ func_type [] (F32 ∷ [])
      ∷ [];
  imports = record { «module» = codes "h"; name = codes "f"; kind = import.Func 0 } ∷ [];
  funcs = record { ty = 1; locals = []; body = Call 0 ∷ GlobalGet 0 ∷ End ∷ [] } ∷ [];
  globals = record { ty = record { ty = F32; mutable = true }; init = constant F32 0 ∷ End ∷ [] } ∷ [];
  exports =
      record { name = codes "g"; kind = Func 1 }
      ∷ record { name = codes "x"; kind = Global 0 }
      ∷ [];
}

-- a data segment at an imported place
abbrev pub imported_offset : Module
imported_offset = record empty_module {
  types = func_type [] (I32 ∷ []) ∷ [];
  imports = record { «module» = codes "h"; name = codes "b"; kind = import.Global (record { ty = I32; mutable = false }) } ∷ [];
  funcs = record { ty = 0; locals = []; body = constant I32 16 ∷ load 0x2D 0 0 ∷ End ∷ [] } ∷ [];
  memories = limits 1 None ∷ [];
  exports = record { name = codes "g"; kind = Func 0 } ∷ [];
  datas = record { memory = 0; offset = GlobalGet 0 ∷ End ∷ []; bytes = 65 ∷ [] } ∷ [];
}

-- an addition of floats in the third function
abbrev pub float_body : Module
float_body = record empty_module {
  types = func_type [] [] ∷ [];
  funcs =
      record { ty = 0; locals = []; body = End ∷ [] }
      ∷ record { ty = 0; locals = []; body = End ∷ [] }
      ∷ record { ty = 0; locals = []; body = Nop ∷ constant F64 0 ∷ constant F64 0 ∷ Numeric 0xA0 ∷ Drop ∷ End ∷ [] }
      ∷ [];
}

-- buffers on a stack in memory
abbrev pub c_buffers : Module
c_buffers = record empty_module {
  types =
      func_type (I32 ∷ I32 ∷ I32 ∷ []) (I32 ∷ [])
      ∷ func_type (I32 ∷ []) (I32 ∷ [])
      ∷ func_type [] (I32 ∷ [])
      ∷ [];
  imports = record { «module» = codes "env"; name = codes "read"; kind = import.Func 0 } ∷ [];
  funcs =
      record {
        ty = 2;
        locals = record { count = 1; ty = I32 } ∷ [];
        body =
            GlobalGet 0 ∷ constant I32 16 ∷ Numeric 0x6B ∷ LocalTee 0 ∷ GlobalSet 0 ∷ LocalGet 0 ∷ constant I32 4
            ∷ LocalGet 0 ∷ constant I32 8 ∷ Numeric 0x6A ∷ Call 0 ∷ Drop ∷ LocalGet 0 ∷ load 0x28 2 0 ∷ LocalGet 0
            ∷ load 0x28 2 8 ∷ Numeric 0x6A ∷ constant I32 1 ∷ CallIndirect 1 ∷ LocalGet 0 ∷ constant I32 16
            ∷ Numeric 0x6A ∷ GlobalSet 0 ∷ End ∷ [];
      }
      ∷ record { ty = 1; locals = []; body = LocalGet 0 ∷ constant I32 1 ∷ Numeric 0x74 ∷ End ∷ [] }
      ∷ [];
  tables = limits 2 (Some 2) ∷ [];
  memories = limits 2 None ∷ [];
  globals = record { ty = record { ty = I32; mutable = true }; init = constant I32 66560 ∷ End ∷ [] } ∷ [];
  exports =
      record { name = codes "memory"; kind = Memory 0 }
      ∷ record { name = codes "run"; kind = Func 1 }
      ∷ [];
  elems = Active 0 (constant I32 1 ∷ End ∷ []) (2 ∷ []) ∷ [];
}

-- a module without imports that replays two answers
abbrev pub replay_two_answers : Module
replay_two_answers = record empty_module {
  types =
      func_type [] (I32 ∷ [])
      ∷ func_type [] []
      ∷ [];
  funcs =
      record {
        ty = 0;
        locals = [];
        body =
            GlobalGet 0 ∷ GlobalGet 0 ∷ constant I32 1 ∷ Numeric 0x6A ∷ GlobalSet 0 ∷ If (Some I32) ∷ constant I32 7
            ∷ Else ∷ constant I32 5 ∷ End ∷ End ∷ [];
      }
      ∷ record { ty = 0; locals = []; body = Call 0 ∷ Call 0 ∷ Numeric 0x6A ∷ End ∷ [] }
      ∷ record { ty = 1; locals = []; body = Call 1 ∷ Drop ∷ End ∷ [] }
      ∷ [];
  globals = record { ty = record { ty = I32; mutable = true }; init = constant I32 0 ∷ End ∷ [] } ∷ [];
  exports = record { name = codes "_start"; kind = Func 2 } ∷ [];
  customs = record { name = codes "r3.layout"; bytes = 1 ∷ 1 ∷ [] } ∷ [];
}

-- a function that adds two answers, with two `nop`s instead of the second call
abbrev pub two_answers_untyped : Module
two_answers_untyped = record empty_module {
  types = func_type [] (I32 ∷ []) ∷ [];
  imports = record { «module» = codes "h"; name = codes "f"; kind = import.Func 0 } ∷ [];
  funcs = record { ty = 0; locals = []; body = Call 0 ∷ Nop ∷ Nop ∷ Numeric 0x6A ∷ End ∷ [] } ∷ [];
  exports = record { name = codes "g"; kind = Func 1 } ∷ [];
}

-- a memory of 4,097 pages
abbrev pub too_many_pages : Module
too_many_pages = record empty_module {
  memories = limits 4097 None ∷ [];
}

-- a memory of 4,096 pages
abbrev pub max_pages : Module
max_pages = record empty_module {
  memories = limits 4096 None ∷ [];
}
