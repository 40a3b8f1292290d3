-- Bodies that have a typing and bodies that have no typing, at least one of each for each rule (Core 1.0, 3.3;
-- Core 2.0, 3.3.1, 3.3.2, 3.3.6 and 3.3.7).
-- These are examples, which the check computes.
use Rattle.std.proofs.Common.{◌≡◌, ℕ, ◌^◌, List, [], ◌∷◌, ◌++◌, Option, Some, None, Bool, true, false, not, All, Decides, refl, ap, ◌∙◌}
use Rattle.std.specs.List.{list_all}
use Rattle.std.proofs.lemmas.Bool.Decides.{Decides-by_and, Decides-not}
use Rattle.wasm_syntax.specs.declared.values.ValType.{ValType}
use Rattle.wasm_syntax.specs.declared.values.ValType.TheVariants.{I32, I64, F32, F64, FuncRef}
use Rattle.wasm_syntax.specs.declared.instructions.Instr.{Instr}
use Rattle.wasm_syntax.specs.declared.instructions.Instr.TheVariants.{Unreachable, Nop, Block, Loop, If, Else, End, Br, BrIf, BrTable, Return, Call, CallIndirect, Drop, Select, LocalGet, LocalSet, LocalTee, GlobalGet, GlobalSet, Load, Store, MemorySize, MemoryGrow, MemoryCopy, MemoryFill, Const, Numeric, RefNull, RefFunc, TableSet, TableGrow, TableSize}
use Rattle.wasm_syntax.specs.Nest.{Nest, IsBody, nest_of}
use Rattle.wasm_syntax.specs.Typing.{Context, IsTyped}
use Rattle.wasm_syntax.specs.ValidityTests.{nest_ends}
use Rattle.wasm_syntax.proofs.Nests.{nest_of_body, body_of_nest}
use Rattle.wasm_syntax.proofs.NestTypes.{typed_from_ends, ends_from_typed}

-- ---- the contexts of the bodies

abbrev Row : Type 0
Row = List ValType × List Instr

-- two types, a function of each, a table, a memory, an immutable and a mutable global, two locals; the
-- second function may be referred to
abbrev giving : List ValType → Context
giving results = record {
  types = record { params = []; results = [] } ∷ record { params = I64 ∷ I32 ∷ []; results = F32 ∷ [] } ∷ [];
  funcs = 0 ∷ 1 ∷ [];
  tables = record { min = 1; max = None } ∷ [];
  memories = record { min = 1; max = None } ∷ [];
  globals = record { ty = I32; mutable = false } ∷ record { ty = I64; mutable = true } ∷ [];
  locals = I32 ∷ F64 ∷ [];
  labels = results ∷ [];
  results = results;
  declared = 1 ∷ [];
}

-- a context with neither table nor memory
abbrev bare : List ValType → Context
bare results = record (giving results) { tables = []; memories = [] }

-- the body is nested, and has the typing of its row
record HasTyping (ctx : Context) (row : Row) : Type 0 where
  nest : Nest
  is_body : IsBody nest (row.1 ++ End ∷ [])
  typed : IsTyped ctx nest [] row.0

-- ---- the plain program decides this

module _ (at : List ValType → Context) where
  abbrev accepts : Row → Bool
  accepts row = nest_ends (at row.0) row.0 (nest_of (row.1 ++ End ∷ []))

  by_nest : (row : Row) (o : Option Nest) → nest_of (row.1 ++ End ∷ []) ≡ o → nest_ends (at row.0) row.0 o ≡ true
      → HasTyping (at row.0) row
  by_nest row None e h = cc
  by_nest row (Some nest) e h = record {
    nest = nest;
    is_body = body_of_nest nest (row.1 ++ End ∷ []) e;
    typed = typed_from_ends (at row.0) nest row.0 h;
  }

  decided : (row : Row) → Decides (accepts row) (HasTyping (at row.0) row)
  decided row = (
    by_nest row (nest_of (row.1 ++ End ∷ [])) refl,
    λ h.
        ap (nest_ends (at row.0) row.0) (nest_of_body h.nest (row.1 ++ End ∷ []) h.is_body)
        ∙ ends_from_typed (at row.0) h.nest row.0 h.typed,
  )

  each_typed : (rows : List Row) → list_all accepts rows ≡ true → All (λ row. HasTyping (at row.0) row) rows
  each_typed rows h = (Decides-by_and accepts (λ row. HasTyping (at row.0) row) (list_all accepts) decided refl (λ _ _. refl) rows).0 h

  none_typed : (rows : List Row) → list_all (λ row. not (accepts row)) rows ≡ true
      → All (λ row. ¬ HasTyping (at row.0) row) rows
  none_typed rows h =
      (Decides-by_and (λ row. not (accepts row)) (λ row. ¬ HasTyping (at row.0) row)
      (list_all (λ row. not (accepts row))) (λ row. Decides-not (accepts row) (decided row)) refl (λ _ _. refl) rows).0
      h

-- ---- the bodies, without their `End`

abbrev i32 : Instr
i32 = Const (record { ty = I32; bits = 0 })

abbrev i64 : Instr
i64 = Const (record { ty = I64; bits = 0 })

abbrev f32 : Instr
f32 = Const (record { ty = F32; bits = 0 })

abbrev f64 : Instr
f64 = Const (record { ty = F64; bits = 0 })

abbrev load : ℕ → ℕ → Instr
load op align = Load (record { op = op; align = align; offset = 0 })

abbrev store : ℕ → ℕ → Instr
store op align = Store (record { op = op; align = align; offset = 0 })

abbrev typed_bodies : List Row
typed_bodies =
    -- numeric instructions
    ([], Nop ∷ [])
    ∷ (I32 ∷ [], i32 ∷ [])
    ∷ (I64 ∷ [], i64 ∷ [])
    ∷ (F32 ∷ [], f32 ∷ [])
    ∷ (F64 ∷ [], f64 ∷ [])
    ∷ (I32 ∷ [], Const (record { ty = I32; bits = 0xFFFFFFFF }) ∷ [])
    ∷ (I64 ∷ [], Const (record { ty = I64; bits = 0xFFFFFFFFFFFFFFFF }) ∷ [])
    ∷ (I32 ∷ [], i32 ∷ Numeric 0x45 ∷ [])
    ∷ (I32 ∷ [], i32 ∷ i32 ∷ Numeric 0x4F ∷ [])
    ∷ (I32 ∷ [], i64 ∷ i64 ∷ Numeric 0x51 ∷ [])
    ∷ (I32 ∷ [], f32 ∷ f32 ∷ Numeric 0x5B ∷ [])
    ∷ (I32 ∷ [], f64 ∷ f64 ∷ Numeric 0x66 ∷ [])
    ∷ (I32 ∷ [], i32 ∷ i32 ∷ Numeric 0x6A ∷ [])
    ∷ (I64 ∷ [], i64 ∷ Numeric 0x79 ∷ [])
    ∷ (F32 ∷ [], f32 ∷ Numeric 0x91 ∷ [])
    ∷ (F64 ∷ [], f64 ∷ f64 ∷ Numeric 0xA6 ∷ [])
    ∷ (I32 ∷ [], i64 ∷ Numeric 0xA7 ∷ [])
    ∷ (I64 ∷ [], i32 ∷ Numeric 0xAC ∷ [])
    ∷ (I64 ∷ [], f64 ∷ Numeric 0xB1 ∷ [])
    ∷ (F64 ∷ [], f32 ∷ Numeric 0xBB ∷ [])
    ∷ (I32 ∷ [], f32 ∷ Numeric 0xBC ∷ [])
    ∷ (F64 ∷ [], i64 ∷ Numeric 0xBF ∷ [])
    ∷ (I32 ∷ [], i32 ∷ Numeric 0xC0 ∷ [])
    ∷ (I32 ∷ [], i32 ∷ Numeric 0xC1 ∷ [])
    ∷ (I64 ∷ [], i64 ∷ Numeric 0xC2 ∷ [])
    ∷ (I64 ∷ [], i64 ∷ Numeric 0xC4 ∷ [])
    -- parametric instructions
    ∷ ([], f64 ∷ Drop ∷ [])
    ∷ ([], RefNull ∷ Drop ∷ [])
    ∷ (I64 ∷ [], i64 ∷ i64 ∷ i32 ∷ Select ∷ [])
    -- variable instructions
    ∷ (F64 ∷ [], LocalGet 1 ∷ [])
    ∷ ([], f64 ∷ LocalSet 1 ∷ [])
    ∷ (F64 ∷ [], f64 ∷ LocalTee 1 ∷ [])
    ∷ (I32 ∷ [], GlobalGet 0 ∷ [])
    ∷ (I64 ∷ [], GlobalGet 1 ∷ [])
    ∷ ([], i64 ∷ GlobalSet 1 ∷ [])
    -- memory instructions, aligned to their width and less
    ∷ (I32 ∷ [], i32 ∷ load 0x28 2 ∷ [])
    ∷ (I64 ∷ [], i32 ∷ load 0x29 3 ∷ [])
    ∷ (F32 ∷ [], i32 ∷ load 0x2A 2 ∷ [])
    ∷ (F64 ∷ [], i32 ∷ load 0x2B 0 ∷ [])
    ∷ (I32 ∷ [], i32 ∷ load 0x2C 0 ∷ [])
    ∷ (I32 ∷ [], i32 ∷ load 0x2F 1 ∷ [])
    ∷ (I64 ∷ [], i32 ∷ load 0x35 2 ∷ [])
    ∷ ([], i32 ∷ i32 ∷ store 0x36 2 ∷ [])
    ∷ ([], i32 ∷ f64 ∷ store 0x39 3 ∷ [])
    ∷ ([], i32 ∷ i64 ∷ store 0x3E 2 ∷ [])
    ∷ ([], i32 ∷ i32 ∷ store 0x3A 0 ∷ [])
    ∷ (I32 ∷ [], MemorySize ∷ [])
    ∷ (I32 ∷ [], i32 ∷ MemoryGrow ∷ [])
    ∷ ([], i32 ∷ i32 ∷ i32 ∷ MemoryCopy ∷ [])
    ∷ ([], i32 ∷ i32 ∷ i32 ∷ MemoryFill ∷ [])
    -- blocks
    ∷ (I32 ∷ [], Block (Some I32) ∷ i32 ∷ End ∷ [])
    ∷ (I32 ∷ [], i32 ∷ Block None ∷ End ∷ [])
    ∷ (I32 ∷ [], Loop (Some I32) ∷ i32 ∷ End ∷ [])
    ∷ (F32 ∷ [], i32 ∷ If (Some F32) ∷ f32 ∷ Else ∷ f32 ∷ End ∷ [])
    ∷ ([], i32 ∷ If None ∷ Nop ∷ End ∷ [])
    ∷ ([], i32 ∷ If None ∷ Else ∷ End ∷ [])
    -- branches
    ∷ (I32 ∷ [], i32 ∷ Br 0 ∷ [])
    ∷ (I32 ∷ [], i64 ∷ i32 ∷ Br 0 ∷ [])
    ∷ (I32 ∷ [], Block None ∷ Block None ∷ i32 ∷ Br 2 ∷ End ∷ End ∷ i32 ∷ [])
    ∷ (I32 ∷ [], Loop (Some I32) ∷ i64 ∷ Br 0 ∷ End ∷ [])
    ∷ (I32 ∷ [], i32 ∷ i32 ∷ BrIf 0 ∷ [])
    ∷ ([], Loop None ∷ i32 ∷ BrIf 0 ∷ End ∷ [])
    ∷ (I32 ∷ [], f32 ∷ i32 ∷ i32 ∷ BrIf 0 ∷ Br 0 ∷ [])
    ∷ (I32 ∷ [], i32 ∷ i32 ∷ BrTable (0 ∷ []) 0 ∷ [])
    ∷ (I32 ∷ [], Block (Some I32) ∷ i64 ∷ i32 ∷ i32 ∷ BrTable (0 ∷ 1 ∷ []) 1 ∷ End ∷ [])
    ∷ (I32 ∷ [], i32 ∷ i32 ∷ BrTable [] 0 ∷ [])
    ∷ (I32 ∷ [], f32 ∷ i32 ∷ Return ∷ [])
    ∷ ([], Return ∷ [])
    -- calls, the first argument pushed first
    ∷ ([], Call 0 ∷ [])
    ∷ (F32 ∷ [], i64 ∷ i32 ∷ Call 1 ∷ [])
    ∷ (F32 ∷ [], i64 ∷ i32 ∷ i32 ∷ CallIndirect 1 ∷ [])
    ∷ ([], i32 ∷ CallIndirect 0 ∷ [])
    -- references to functions (Core 2.0)
    ∷ ([], i32 ∷ RefNull ∷ TableSet 0 ∷ [])
    ∷ ([], i32 ∷ RefFunc 1 ∷ TableSet 0 ∷ [])
    ∷ (I32 ∷ [], RefNull ∷ i32 ∷ TableGrow 0 ∷ [])
    ∷ (I32 ∷ [], RefFunc 1 ∷ i32 ∷ TableGrow 0 ∷ [])
    ∷ (I32 ∷ [], TableSize 0 ∷ [])
    -- after `unreachable`, `br`, `br_table` and `return`
    ∷ (I32 ∷ [], Unreachable ∷ [])
    ∷ (I32 ∷ [], Unreachable ∷ Numeric 0x6A ∷ [])
    ∷ (I32 ∷ [], Unreachable ∷ i32 ∷ Numeric 0x6A ∷ [])
    ∷ ([], Unreachable ∷ Drop ∷ [])
    ∷ ([], Unreachable ∷ LocalSet 1 ∷ [])
    ∷ (I64 ∷ [], Unreachable ∷ i64 ∷ i32 ∷ Select ∷ [])
    ∷ (I64 ∷ [], Unreachable ∷ Select ∷ [])
    ∷ ([], Unreachable ∷ Select ∷ Drop ∷ [])
    ∷ (F32 ∷ [], Unreachable ∷ f32 ∷ i32 ∷ Select ∷ i32 ∷ Select ∷ [])
    ∷ (I32 ∷ [], i32 ∷ Br 0 ∷ Numeric 0x6A ∷ [])
    ∷ (I32 ∷ [], i32 ∷ i32 ∷ BrTable (0 ∷ []) 0 ∷ Numeric 0x50 ∷ [])
    ∷ (I32 ∷ [], i32 ∷ Return ∷ Drop ∷ i32 ∷ [])
    ∷ (I32 ∷ [], Unreachable ∷ BrIf 0 ∷ [])
    ∷ (I32 ∷ [], Unreachable ∷ BrTable (0 ∷ []) 0 ∷ [])
    ∷ (F32 ∷ [], Unreachable ∷ Call 1 ∷ [])
    ∷ (I32 ∷ [], Unreachable ∷ If (Some I32) ∷ i32 ∷ Else ∷ Unreachable ∷ End ∷ [])
    ∷ (I32 ∷ [], Block (Some I32) ∷ Unreachable ∷ End ∷ [])
    ∷ ([], Block None ∷ Br 0 ∷ Drop ∷ End ∷ [])
    ∷ ([], Unreachable ∷ TableSet 0 ∷ [])
    ∷ (I32 ∷ [], Unreachable ∷ TableGrow 0 ∷ [])
    ∷ ([], Unreachable ∷ MemoryCopy ∷ [])
    ∷ []

abbrev untyped_bodies : List Row
untyped_bodies =
    -- what a body leaves
    (I32 ∷ [], [])
    ∷ ([], i32 ∷ [])
    ∷ (I32 ∷ [], i64 ∷ [])
    ∷ (I32 ∷ [], i32 ∷ i32 ∷ [])
    -- numeric instructions
    ∷ (I32 ∷ [], f32 ∷ Numeric 0x67 ∷ [])
    ∷ (I32 ∷ [], i32 ∷ Numeric 0x6A ∷ [])
    ∷ (I32 ∷ [], i32 ∷ f32 ∷ Numeric 0x6A ∷ [])
    ∷ (I32 ∷ [], f32 ∷ i32 ∷ Numeric 0x6A ∷ [])
    ∷ (I64 ∷ [], i64 ∷ Numeric 0x50 ∷ [])
    ∷ (F64 ∷ [], f64 ∷ Numeric 0xBB ∷ [])
    ∷ (I32 ∷ [], i64 ∷ Numeric 0xC0 ∷ [])
    ∷ (I64 ∷ [], i32 ∷ Numeric 0xC4 ∷ [])
    -- no opcode of its kind, no value
    ∷ (I32 ∷ [], i32 ∷ Numeric 0x44 ∷ [])
    ∷ (I32 ∷ [], i32 ∷ Numeric 0xC5 ∷ [])
    ∷ (I32 ∷ [], i32 ∷ load 0x36 0 ∷ [])
    ∷ (I32 ∷ [], i32 ∷ load 0x27 0 ∷ [])
    ∷ ([], i32 ∷ i32 ∷ store 0x35 0 ∷ [])
    ∷ ([], i32 ∷ i32 ∷ store 0x3F 0 ∷ [])
    ∷ (I32 ∷ [], Const (record { ty = I32; bits = 2 ^ 32 }) ∷ [])
    ∷ ([], Const (record { ty = FuncRef; bits = 0 }) ∷ Drop ∷ [])
    -- parametric instructions
    ∷ ([], Drop ∷ [])
    ∷ (I32 ∷ [], i32 ∷ i64 ∷ i32 ∷ Select ∷ [])
    ∷ (I32 ∷ [], i32 ∷ i32 ∷ i64 ∷ Select ∷ [])
    ∷ (I32 ∷ [], i32 ∷ i32 ∷ Select ∷ [])
    ∷ ([], RefNull ∷ RefNull ∷ i32 ∷ Select ∷ Drop ∷ [])
    -- variable instructions
    ∷ (I32 ∷ [], LocalGet 2 ∷ [])
    ∷ ([], i32 ∷ LocalSet 1 ∷ [])
    ∷ ([], LocalSet 0 ∷ [])
    ∷ (I32 ∷ [], i32 ∷ LocalTee 1 ∷ [])
    ∷ (I32 ∷ [], GlobalGet 2 ∷ [])
    ∷ ([], i32 ∷ GlobalSet 1 ∷ [])
    ∷ ([], i64 ∷ GlobalSet 2 ∷ [])
    -- an immutable global
    ∷ ([], i32 ∷ GlobalSet 0 ∷ [])
    -- memory instructions, aligned to more than their width
    ∷ (I32 ∷ [], i32 ∷ load 0x28 3 ∷ [])
    ∷ (I64 ∷ [], i32 ∷ load 0x29 4 ∷ [])
    ∷ (I32 ∷ [], i32 ∷ load 0x2C 1 ∷ [])
    ∷ (I32 ∷ [], i32 ∷ load 0x2F 2 ∷ [])
    ∷ (I64 ∷ [], i32 ∷ load 0x34 3 ∷ [])
    ∷ ([], i32 ∷ f64 ∷ store 0x39 4 ∷ [])
    ∷ ([], i32 ∷ i32 ∷ store 0x3A 1 ∷ [])
    -- memory instructions, of other types
    ∷ (I32 ∷ [], i64 ∷ load 0x28 2 ∷ [])
    ∷ (I64 ∷ [], i32 ∷ load 0x28 2 ∷ [])
    ∷ ([], i32 ∷ i64 ∷ store 0x36 2 ∷ [])
    ∷ ([], f64 ∷ i32 ∷ store 0x39 3 ∷ [])
    ∷ (I32 ∷ [], i64 ∷ MemoryGrow ∷ [])
    ∷ (I32 ∷ [], MemoryGrow ∷ [])
    ∷ ([], i32 ∷ i32 ∷ MemoryCopy ∷ [])
    ∷ ([], i32 ∷ i32 ∷ MemoryFill ∷ [])
    ∷ ([], i64 ∷ i32 ∷ i32 ∷ MemoryCopy ∷ [])
    ∷ ([], i32 ∷ i64 ∷ i32 ∷ MemoryFill ∷ [])
    ∷ ([], i32 ∷ i32 ∷ i64 ∷ MemoryCopy ∷ [])
    ∷ (I32 ∷ [], i32 ∷ i32 ∷ i32 ∷ MemoryFill ∷ [])
    -- blocks
    ∷ ([], Block None ∷ i32 ∷ End ∷ [])
    ∷ (I32 ∷ [], Block (Some I32) ∷ End ∷ [])
    ∷ (I32 ∷ [], Block (Some I32) ∷ i64 ∷ End ∷ [])
    ∷ ([], i32 ∷ Block None ∷ Drop ∷ End ∷ [])
    ∷ (I32 ∷ [], Loop (Some I32) ∷ i32 ∷ BrIf 0 ∷ End ∷ [])
    ∷ ([], If None ∷ End ∷ [])
    ∷ ([], i64 ∷ If None ∷ End ∷ [])
    ∷ (I32 ∷ [], i32 ∷ If (Some I32) ∷ i32 ∷ End ∷ [])
    ∷ (I32 ∷ [], i32 ∷ If (Some I32) ∷ i32 ∷ Else ∷ f32 ∷ End ∷ [])
    ∷ (I32 ∷ [], i32 ∷ If (Some I32) ∷ i64 ∷ Else ∷ i32 ∷ End ∷ [])
    ∷ ([], Block (Some FuncRef) ∷ RefNull ∷ End ∷ Drop ∷ [])
    -- no nests
    ∷ ([], Else ∷ [])
    ∷ ([], End ∷ [])
    ∷ ([], Block None ∷ [])
    ∷ ([], Block None ∷ Else ∷ End ∷ [])
    ∷ ([], i32 ∷ If None ∷ Else ∷ Else ∷ End ∷ [])
    -- branches
    ∷ ([], Br 1 ∷ [])
    ∷ (I32 ∷ [], Br 0 ∷ [])
    ∷ (I32 ∷ [], i64 ∷ Br 0 ∷ [])
    ∷ (I32 ∷ [], i32 ∷ BrIf 0 ∷ [])
    ∷ (I32 ∷ [], i32 ∷ i64 ∷ BrIf 0 ∷ [])
    ∷ ([], i32 ∷ BrIf 1 ∷ [])
    ∷ ([], i32 ∷ BrTable (1 ∷ []) 0 ∷ [])
    ∷ ([], i32 ∷ BrTable [] 1 ∷ [])
    ∷ (I32 ∷ [], i32 ∷ BrTable [] 0 ∷ [])
    ∷ ([], BrTable [] 0 ∷ [])
    ∷ (I32 ∷ [], Return ∷ [])
    ∷ (I32 ∷ [], i64 ∷ Return ∷ [])
    -- a `br_table` whose labels differ
    ∷ (I32 ∷ [], Block None ∷ i32 ∷ i32 ∷ BrTable (0 ∷ []) 1 ∷ End ∷ i32 ∷ [])
    ∷ (I32 ∷ [], Block (Some I64) ∷ i64 ∷ i32 ∷ BrTable (1 ∷ []) 0 ∷ End ∷ Drop ∷ i32 ∷ [])
    -- calls
    ∷ ([], Call 2 ∷ [])
    ∷ (F32 ∷ [], i32 ∷ i64 ∷ Call 1 ∷ [])
    ∷ (F32 ∷ [], i32 ∷ Call 1 ∷ [])
    ∷ ([], i64 ∷ i32 ∷ Call 1 ∷ [])
    ∷ (F32 ∷ [], i32 ∷ i64 ∷ i32 ∷ CallIndirect 1 ∷ [])
    ∷ (F32 ∷ [], i64 ∷ i32 ∷ CallIndirect 1 ∷ [])
    ∷ ([], i32 ∷ CallIndirect 2 ∷ [])
    -- references to functions (Core 2.0): one that is not declared, another table, another operand
    ∷ ([], i32 ∷ RefFunc 0 ∷ TableSet 0 ∷ [])
    ∷ ([], i32 ∷ RefFunc 2 ∷ TableSet 0 ∷ [])
    ∷ ([], i32 ∷ RefNull ∷ TableSet 1 ∷ [])
    ∷ ([], i32 ∷ i32 ∷ TableSet 0 ∷ [])
    ∷ ([], RefNull ∷ i32 ∷ TableSet 0 ∷ [])
    ∷ ([], RefNull ∷ [])
    ∷ (I32 ∷ [], RefNull ∷ i32 ∷ TableGrow 1 ∷ [])
    ∷ (I32 ∷ [], i32 ∷ RefNull ∷ TableGrow 0 ∷ [])
    ∷ (I32 ∷ [], i32 ∷ i32 ∷ TableGrow 0 ∷ [])
    ∷ ([], RefNull ∷ i32 ∷ TableGrow 0 ∷ [])
    ∷ (I32 ∷ [], TableSize 1 ∷ [])
    ∷ (I64 ∷ [], TableSize 0 ∷ [])
    -- after `unreachable`, `br`, `br_table` and `return`
    ∷ ([], Unreachable ∷ i32 ∷ [])
    ∷ (I32 ∷ [], Unreachable ∷ i64 ∷ [])
    ∷ (I32 ∷ [], Unreachable ∷ i64 ∷ Numeric 0x6A ∷ [])
    ∷ (I32 ∷ [], Unreachable ∷ i64 ∷ Numeric 0x45 ∷ [])
    ∷ (I32 ∷ [], i32 ∷ Br 0 ∷ f32 ∷ [])
    ∷ (I32 ∷ [], i32 ∷ Return ∷ i64 ∷ [])
    ∷ (I32 ∷ [], i32 ∷ i32 ∷ BrTable (0 ∷ []) 0 ∷ i64 ∷ [])
    ∷ (I32 ∷ [], Block (Some I32) ∷ i32 ∷ Br 0 ∷ i64 ∷ End ∷ [])
    ∷ (I32 ∷ [], Unreachable ∷ i32 ∷ i64 ∷ i32 ∷ Select ∷ [])
    ∷ (I32 ∷ [], Unreachable ∷ i64 ∷ i32 ∷ Select ∷ [])
    ∷ ([], Unreachable ∷ RefNull ∷ i32 ∷ Select ∷ Drop ∷ [])
    ∷ ([], Unreachable ∷ Select ∷ TableSet 0 ∷ [])
    ∷ (I32 ∷ [], Unreachable ∷ Select ∷ i32 ∷ TableGrow 0 ∷ [])
    ∷ (I32 ∷ [], Unreachable ∷ TableGrow 1 ∷ [])
    ∷ (I32 ∷ [], Unreachable ∷ i64 ∷ BrIf 0 ∷ [])
    ∷ ([], Return ∷ Block None ∷ i32 ∷ End ∷ [])
    ∷ ([], Unreachable ∷ Block None ∷ Drop ∷ End ∷ [])
    ∷ ([], Unreachable ∷ LocalGet 9 ∷ Drop ∷ [])
    ∷ ([], Unreachable ∷ Br 1 ∷ [])
    ∷ (I32 ∷ [], Block None ∷ Unreachable ∷ BrTable (0 ∷ []) 1 ∷ End ∷ i32 ∷ [])
    ∷ ([], Unreachable ∷ End ∷ [])
    ∷ []

-- instructions that need a table or a memory
abbrev needing_bodies : List Row
needing_bodies =
    -- calls, memory instructions, references
    ([], i32 ∷ CallIndirect 0 ∷ [])
    ∷ (I32 ∷ [], i32 ∷ load 0x28 0 ∷ [])
    ∷ ([], i32 ∷ i32 ∷ store 0x36 0 ∷ [])
    ∷ (I32 ∷ [], MemorySize ∷ [])
    ∷ (I32 ∷ [], i32 ∷ MemoryGrow ∷ [])
    ∷ ([], i32 ∷ i32 ∷ i32 ∷ MemoryCopy ∷ [])
    ∷ ([], i32 ∷ i32 ∷ i32 ∷ MemoryFill ∷ [])
    ∷ ([], i32 ∷ RefNull ∷ TableSet 0 ∷ [])
    ∷ (I32 ∷ [], RefNull ∷ i32 ∷ TableGrow 0 ∷ [])
    ∷ (I32 ∷ [], TableSize 0 ∷ [])
    ∷ []

all_typed : All (λ row. HasTyping (giving row.0) row) typed_bodies
all_typed = each_typed giving typed_bodies refl

none_has_typing : All (λ row. ¬ HasTyping (giving row.0) row) untyped_bodies
none_has_typing = none_typed giving untyped_bodies refl

typed_with_both : All (λ row. HasTyping (giving row.0) row) needing_bodies
typed_with_both = each_typed giving needing_bodies refl

untyped_without : All (λ row. ¬ HasTyping (bare row.0) row) needing_bodies
untyped_without = none_typed bare needing_bodies refl
