-- Instrumented examples, and damaged modules like them.
use Rattle.std.specs.Prelude.{ℕ, List, [], ◌∷◌, ◌++◌, Some, None, replicate, true}
use Rattle.base.specs.declared.opcodes.TheConstants.{I32_ADD, I32_LOAD, I64_STORE, I32_WRAP_I64, I64_EXTEND_I32_U, I32_REINTERPRET_F32}
use Rattle.wasm_syntax.specs.declared.values.ValType.TheVariants.{I32, I64, F32, F64}
use Rattle.wasm_syntax.specs.declared.values.Val.{Val}
use Rattle.wasm_syntax.specs.declared.instructions.Instr.{Instr}
use Rattle.wasm_syntax.specs.declared.instructions.Instr.TheVariants.{Block, End, Call, CallIndirect, Drop, LocalGet, LocalSet, LocalTee, GlobalGet, GlobalSet, Load, Store as StoreTo, MemorySize, MemoryGrow, MemoryCopy, MemoryFill, Const, Numeric, Return}
use Rattle.wasm_syntax.specs.declared.modules.ElemSeg.TheVariants.{Active}
use Rattle.wasm_syntax.specs.declared.modules.Run.{Run}
use Rattle.wasm_syntax.specs.declared.modules.Module.{Module}
use Rattle.history_spec.specs.Store.{Store}
use Rattle.record_replay_spec.specs.Instrumented.{instrumented_module}
use Rattle.worked_histories.specs.Build.{value, i32, limits, global_type, memory_arg, run, func, global}
use Rattle.worked_histories.specs.Modules.{two_answers}

abbrev pub i64 : ℕ → Val
i64 bits = value I64 bits

-- the digest of the bytes of `two_answers`
abbrev pub digest : List ℕ
digest =
    0xB2 ∷ 0x53 ∷ 0x8F ∷ 0xF9 ∷ 0x13 ∷ 0x99 ∷ 0xE7 ∷ 0xD3 ∷ 0x20 ∷ 0x48 ∷ 0x8D ∷ 0xC8 ∷ 0x9F ∷ 0x45 ∷ 0x1E ∷ 0x77
    ∷ 0xF2 ∷ 0x82 ∷ 0xBA ∷ 0x4C ∷ 0x55 ∷ 0xA7 ∷ 0xD9 ∷ 0xC9 ∷ 0x18 ∷ 0x7B ∷ 0x99 ∷ 0x18 ∷ 0xB4 ∷ 0x41 ∷ 0xEF ∷ 0x84 ∷ []

-- a digest of zeros, for modules whose bytes do not matter
abbrev pub no_digest : List ℕ
no_digest = replicate 32 0

-- ---- two answers

-- the instrumented module of two answers
abbrev pub hooked_two_answers : Module
hooked_two_answers = instrumented_module two_answers digest

-- the code of one answer, with the byte that a hook reports for its type
abbrev pub one_answer : (byte : ℕ) → List Instr
one_answer byte =
    Const (i32 0) ∷ Call 4 ∷ Call 0 ∷ LocalSet 1 ∷ Const (i32 byte) ∷ LocalGet 1 ∷ Numeric I64_EXTEND_I32_U ∷ Call 1
    ∷ Const (i32 0) ∷ Call 5 ∷ LocalGet 1 ∷ []

-- the body, with the byte that a hook reports for the type of the first answer, and the function that is called last
abbrev pub two_answers_body : (byte last : ℕ) → List Instr
two_answers_body byte last =
    Const (i32 1) ∷ Call 2 ∷ Block (Some I32) ∷ one_answer byte ++ one_answer 127
    ++ Numeric I32_ADD ∷ End ∷ Const (i32 1) ∷ Call last ∷ End ∷ []

-- the added locals
abbrev pub added : List Run
added = run 2 I32 ∷ run 1 I64 ∷ run 1 F32 ∷ run 1 F64 ∷ []

-- the instrumented module with such a body
abbrev pub damaged : (byte last : ℕ) → Module
damaged byte last = record hooked_two_answers { funcs = func 0 added (two_answers_body byte last) ∷ [] }

-- ---- every kind of instruction that is instrumented

-- a module that stores, copies, fills, reads and sets a global of f32, grows, reads the size, loads, calls by the
-- table and returns
abbrev pub every_kind : Module
every_kind =
    record two_answers {
      funcs = func 0 (run 1 I32 ∷ [])
          (Const (i32 8) ∷ Const (i64 0x1122) ∷ StoreTo (memory_arg I64_STORE 3 4)
          ∷ Const (i32 0) ∷ Const (i32 12) ∷ Const (i32 4) ∷ MemoryCopy
          ∷ Const (i32 3) ∷ Const (i32 7) ∷ Const (i32 2) ∷ MemoryFill
          ∷ GlobalGet 0 ∷ GlobalSet 0
          ∷ Const (i32 0) ∷ MemoryGrow ∷ Drop
          ∷ MemorySize ∷ Drop
          ∷ Const (i32 0) ∷ Load (memory_arg I32_LOAD 2 2) ∷ Drop
          ∷ Const (i32 0) ∷ CallIndirect 0 ∷ Return ∷ End ∷ [])
          ∷ func 0 [] (Const (i32 7) ∷ End ∷ []) ∷ [];
      tables = limits 1 None ∷ [];
      memories = limits 1 None ∷ [];
      globals = global (global_type F32 true) (Const (value F32 0) ∷ End ∷ []) ∷ [];
      start = Some 2;
      elems = Active 0 (Const (i32 0) ∷ End ∷ []) (0 ∷ 2 ∷ []) ∷ [];
    }

-- the instrumented module of `every_kind`
abbrev pub hooked_every_kind : Module
hooked_every_kind = instrumented_module every_kind no_digest

-- the instrumented body of `every_kind`
abbrev pub every_kind_body : List Instr
every_kind_body =
    Const (i32 1) ∷ Call 2 ∷ Block (Some I32)
    ∷ Const (i32 8) ∷ Const (i64 0x1122)
    ∷ LocalSet 3 ∷ LocalTee 1 ∷ Const (i32 4) ∷ Const (i32 8) ∷ LocalGet 3 ∷ Call 9 ∷ LocalGet 1 ∷ LocalGet 3
    ∷ StoreTo (memory_arg I64_STORE 3 4)
    ∷ Const (i32 0) ∷ Const (i32 12) ∷ Const (i32 4)
    ∷ LocalSet 2 ∷ LocalSet 1 ∷ Numeric I64_EXTEND_I32_U ∷ LocalSet 3
    ∷ LocalGet 3 ∷ Numeric I32_WRAP_I64 ∷ LocalGet 1 ∷ LocalGet 2 ∷ Call 14
    ∷ LocalGet 3 ∷ Numeric I32_WRAP_I64 ∷ LocalGet 1 ∷ LocalGet 2 ∷ MemoryCopy
    ∷ Const (i32 3) ∷ Const (i32 7) ∷ Const (i32 2)
    ∷ LocalSet 2 ∷ LocalSet 1 ∷ Numeric I64_EXTEND_I32_U ∷ LocalSet 3
    ∷ LocalGet 3 ∷ Numeric I32_WRAP_I64 ∷ LocalGet 1 ∷ LocalGet 2 ∷ Call 15
    ∷ LocalGet 3 ∷ Numeric I32_WRAP_I64 ∷ LocalGet 1 ∷ LocalGet 2 ∷ MemoryFill
    ∷ GlobalGet 0
    ∷ LocalSet 4 ∷ Const (i32 0) ∷ LocalGet 4 ∷ Numeric I32_REINTERPRET_F32 ∷ Numeric I64_EXTEND_I32_U ∷ Call 12
    ∷ LocalGet 4
    ∷ LocalSet 4 ∷ Const (i32 0) ∷ LocalGet 4 ∷ Numeric I32_REINTERPRET_F32 ∷ Numeric I64_EXTEND_I32_U ∷ Call 13
    ∷ LocalGet 4 ∷ GlobalSet 0
    ∷ Const (i32 0) ∷ MemoryGrow ∷ LocalTee 1 ∷ Call 11 ∷ LocalGet 1 ∷ Drop
    ∷ Call 10 ∷ MemorySize ∷ Drop
    ∷ Const (i32 0) ∷ LocalTee 1 ∷ Const (i32 2) ∷ Const (i32 4) ∷ Call 8 ∷ LocalGet 1
    ∷ Load (memory_arg I32_LOAD 2 2) ∷ Drop
    ∷ Const (i32 0) ∷ LocalTee 1 ∷ Call 6 ∷ LocalGet 1 ∷ CallIndirect 0
    ∷ LocalSet 2 ∷ Const (i32 127) ∷ LocalGet 2 ∷ Numeric I64_EXTEND_I32_U ∷ Call 1 ∷ Call 7 ∷ LocalGet 2
    ∷ Const (i32 1) ∷ Call 3 ∷ Return
    ∷ End ∷ Const (i32 1) ∷ Call 3 ∷ End ∷ []

-- a store for `every_kind` with a memory of 24 bytes, which is quick to compute, and with a function in the table
abbrev pub small_store : (func : ℕ) → Store
small_store func =
    record {
      memory = Some (record { bytes = replicate 24 0; max = None });
      table = Some (record { entries = Some func ∷ []; max = None });
      globals = value F32 0x7FC00001 ∷ [];
    }
