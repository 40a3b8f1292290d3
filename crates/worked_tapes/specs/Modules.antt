-- Modules at the bounds of what is seen and known, beside the examples.
use Rattle.std.specs.Prelude.{ℕ, List, [], ◌∷◌, None}
use Rattle.base.specs.declared.opcodes.TheConstants.{I32_ADD, I32_LOAD, I32_LOAD8_U, I32_STORE8}
use Rattle.wasm_syntax.specs.declared.values.ValType.TheVariants.{I32, F32}
use Rattle.wasm_syntax.specs.declared.instructions.Instr.{Instr}
use Rattle.wasm_syntax.specs.declared.instructions.Instr.TheVariants.{End, Call, CallIndirect, Drop, GlobalGet, GlobalSet, Load, Store, MemorySize, MemoryGrow, Const, Numeric}
use Rattle.wasm_syntax.specs.declared.modules.Module.{Module}
use Rattle.host_script.specs.declared.scripts.Action.{Action}
use Rattle.host_script.specs.declared.scripts.Script.{Script}
use Rattle.worked_histories.specs.Build.{value, memory_arg, func, returns, one_call}
use Rattle.worked_histories.specs.Modules.{overwrite, grow_access, table_entry, table_funcs, float_global}

-- a module of one function that returns a number, with a memory of one page
abbrev pub with_body : List Instr → Module
with_body body = record overwrite { funcs = func 1 [] body ∷ [] }

-- a module that stores into the last byte of the first page
abbrev pub last_byte : Module
last_byte =
    record grow_access {
      funcs = func 0 []
          (Call 0 ∷ Const (value I32 65535) ∷ Const (value I32 9) ∷ Store (memory_arg I32_STORE8 0 0) ∷ End ∷ []) ∷ [];
    }

-- a module that stores into the last byte of the first page, and after another call of the import into the first of
-- the second
abbrev pub last_then_next : Module
last_then_next =
    record grow_access {
      funcs = func 0 []
          (Call 0 ∷ Const (value I32 65535) ∷ Const (value I32 9) ∷ Store (memory_arg I32_STORE8 0 0)
          ∷ Call 0 ∷ Const (value I32 65536) ∷ Const (value I32 9) ∷ Store (memory_arg I32_STORE8 0 0) ∷ End ∷ []) ∷ [];
    }

-- a module that reads the first byte of the second page
abbrev pub reads_next : Module
reads_next = with_body (Call 0 ∷ Const (value I32 65536) ∷ Load (memory_arg I32_LOAD8_U 0 0) ∷ End ∷ [])

-- a module that grows its memory by a page, and then reads the last byte of the second page
abbrev pub grows_itself : Module
grows_itself =
    with_body
    (Call 0 ∷ Const (value I32 1) ∷ MemoryGrow ∷ Drop ∷ Call 0 ∷ Const (value I32 131071)
    ∷ Load (memory_arg I32_LOAD8_U 0 0) ∷ End ∷ [])

-- a module that reads the size of its memory after each of two calls of the import
abbrev pub sizes_twice : Module
sizes_twice = with_body (Call 0 ∷ MemorySize ∷ Call 0 ∷ MemorySize ∷ Numeric I32_ADD ∷ End ∷ [])

-- a module that reads one byte after each of two calls of the import
abbrev pub reads_twice : Module
reads_twice =
    with_body
    (Call 0 ∷ Const (value I32 0) ∷ Load (memory_arg I32_LOAD8_U 0 0) ∷ Call 0 ∷ Const (value I32 0)
    ∷ Load (memory_arg I32_LOAD8_U 0 0) ∷ Numeric I32_ADD ∷ End ∷ [])

-- a module that stores a byte between the two calls, and reads it after both
abbrev pub stores_between : Module
stores_between =
    with_body
    (Call 0 ∷ Const (value I32 0) ∷ Const (value I32 9) ∷ Store (memory_arg I32_STORE8 0 0) ∷ Call 0
    ∷ Const (value I32 0) ∷ Load (memory_arg I32_LOAD8_U 0 0) ∷ End ∷ [])

-- a module that reads two adjacent words, the second first
abbrev pub reads_words : Module
reads_words =
    with_body
    (Call 0 ∷ Const (value I32 12) ∷ Load (memory_arg I32_LOAD 2 0) ∷ Const (value I32 8)
    ∷ Load (memory_arg I32_LOAD 2 0) ∷ Numeric I32_ADD ∷ End ∷ [])

-- a module that calls the function in an entry of a table with two entries, the second of them empty
abbrev pub calls_entry : ℕ → Module
calls_entry index =
    record table_entry { funcs = table_funcs (Call 0 ∷ Const (value I32 index) ∷ CallIndirect 1 ∷ End ∷ []) }

-- a module that calls the functions in the last entry of the table and in the one after it
abbrev pub calls_last_then_next : Module
calls_last_then_next =
    record table_entry {
      funcs =
          table_funcs
          (Call 0 ∷ Const (value I32 1) ∷ CallIndirect 1 ∷ Call 0 ∷ Const (value I32 2) ∷ CallIndirect 1
          ∷ Numeric I32_ADD ∷ End ∷ []);
    }

-- a module that sets its global between two calls of the import, and reads it after both
abbrev pub sets_between : Module
sets_between =
    record float_global {
      funcs = func 1 []
          (Call 0 ∷ Const (value F32 1) ∷ GlobalSet 0 ∷ Call 0 ∷ GlobalGet 0 ∷ End ∷ []) ∷ [];
    }

-- a script in which the host performs the first actions in the first call of the import, and the second ones in the
-- second
abbrev pub does_then : (first second : List Action) → Script
does_then first second = one_call 1 (returns first None ∷ returns second None ∷ [])
