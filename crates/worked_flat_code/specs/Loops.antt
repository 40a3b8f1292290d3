-- Modules with blocks, loops and branches.
use Rattle.std.specs.Prelude.{ℕ, List, [], ◌∷◌, Some, None, true}
use Rattle.base.specs.declared.opcodes.TheConstants.{I32_ADD, I32_MUL, I32_SUB}
use Rattle.wasm_syntax.specs.declared.values.ValType.TheVariants.{I32, I64}
use Rattle.wasm_syntax.specs.declared.instructions.Instr.{Instr}
use Rattle.wasm_syntax.specs.declared.instructions.Instr.TheVariants.{Block, Loop, If, Else, End, Br, BrIf, BrTable, Return, Drop, Select, LocalGet, LocalSet, LocalTee, Const, Numeric, Unreachable, Nop}
use Rattle.wasm_syntax.specs.declared.modules.Module.{Module}
use Rattle.wasm_syntax.specs.declared.modules.Run.{Run}
use Rattle.host_script.specs.declared.scripts.Script.{Script}
use Rattle.host_script.specs.declared.scripts.Action.TheVariants.{Call as Calls}
use Rattle.worked_histories.specs.Build.{i32, func_type, limits, global_type, run, func, global, script}

-- a module of one function, which takes and returns an i32, with locals
abbrev pub one_function : List Run → List Instr → Module
one_function locals body =
    record {
      types = func_type (I32 ∷ []) (I32 ∷ []) ∷ [];
      imports = [];
      funcs = func 0 locals body ∷ [];
      tables = [];
      memories = limits 1 None ∷ [];
      globals = global (global_type I32 true) (Const (i32 3) ∷ End ∷ []) ∷ [];
      exports = [];
      start = None;
      elems = [];
      datas = [];
      customs = [];
    }

-- a script that calls function 0 with an i32
abbrev pub called_with : ℕ → Script
called_with n = script [] (Calls 0 (i32 n ∷ []) ∷ [])

-- a module that sums the numbers from the argument down, in a loop with a local
abbrev pub sum_down : Module
sum_down =
    one_function (run 1 I32 ∷ [])
    (Loop None ∷ LocalGet 1 ∷ LocalGet 0 ∷ Numeric I32_ADD ∷ LocalSet 1 ∷ LocalGet 0 ∷ Const (i32 1) ∷ Numeric I32_SUB
    ∷ LocalTee 0
    ∷ BrIf 0 ∷ End ∷ LocalGet 1 ∷ End ∷ [])

-- a module with a value from either part of an `if`, above another value
abbrev pub either : Module
either =
    one_function []
    (Const (i32 100) ∷ LocalGet 0 ∷ If (Some I32) ∷ Const (i32 7) ∷ Nop ∷ Else ∷ Const (i32 8) ∷ Const (i32 9) ∷ Drop
    ∷ End ∷ Numeric I32_ADD ∷ End ∷ [])

-- a module with a table of branches out of blocks with results, above values that stay below
abbrev pub switch : Module
switch =
    one_function []
    (Block (Some I32) ∷ Const (i32 1) ∷ Block (Some I32) ∷ Const (i32 2) ∷ Const (i32 3) ∷ LocalGet 0 ∷ BrTable
    (0 ∷ 1 ∷ []) 2
    ∷ Nop ∷ Unreachable ∷ End ∷ Const (i32 10) ∷ Numeric I32_MUL ∷ Numeric I32_ADD ∷ End ∷ Const (i32 50)
    ∷ Numeric I32_ADD ∷ End ∷ [])

-- a module with a loop that ends with a value, above one that stays below, and with branches as a return
abbrev pub leaves : Module
leaves =
    one_function (run 2 I64 ∷ [])
    (Const (i32 1000) ∷ Loop (Some I32) ∷ LocalGet 0 ∷ Const (i32 2) ∷ Numeric I32_SUB ∷ LocalTee 0 ∷ BrIf 0
    ∷ LocalGet 0 ∷ If None
    ∷ Const (i32 5) ∷ Br 2 ∷ End ∷ Const (i32 33) ∷ End ∷ Const (i32 44) ∷ LocalGet 0 ∷ Select ∷ Return ∷ End ∷ [])
