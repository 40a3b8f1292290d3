-- Valid modules, and modules that break each condition of validity once (Core 1.0, 3.4).
-- These are examples, which the check computes.
use Rattle.std.proofs.Common.{◌≡◌, ℕ, ◌^◌, List, [], ◌∷◌, ◌++◌, Option, Some, None, Bool, true, false, nat_eq, get_or, All, refl, ap}
use Rattle.std.specs.Prelude.{codes}
use Rattle.std.specs.List.{list_all}
use Rattle.std.proofs.lemmas.Bool.{eqb-true}
use Rattle.std.proofs.lemmas.List.Sums.{AllPass-from_list_all}
use Rattle.wasm_syntax.specs.declared.values.ValType.{ValType}
use Rattle.wasm_syntax.specs.declared.values.ValType.TheVariants.{I32, I64, F32, F64, FuncRef}
use Rattle.wasm_syntax.specs.declared.instructions.Instr.{Instr}
use Rattle.wasm_syntax.specs.declared.instructions.Instr.TheVariants.{Nop, End, Drop, GlobalGet, MemorySize, MemoryCopy, MemoryFill, Numeric, RefFunc, TableSet, TableGrow, TableSize}
use Rattle.wasm_syntax.specs.declared.modules.Module.{Module}
use Rattle.wasm_syntax.specs.declared.modules.Func.{Func as Function}
use Rattle.wasm_syntax.specs.declared.modules.ImportKind.{ImportKind}
use Rattle.wasm_syntax.specs.declared.modules.ImportKind.TheVariants as import
use Rattle.wasm_syntax.specs.declared.modules.ExportKind.{ExportKind}
use Rattle.wasm_syntax.specs.declared.modules.ElemSeg.{ElemSeg}
use Rattle.wasm_syntax.specs.declared.modules.ExportKind.TheVariants.{Func, Table, Memory, Global}
use Rattle.wasm_syntax.specs.declared.modules.ElemSeg.TheVariants.{Active, Declared}
use Rattle.wasm_syntax.specs.Validity.{IsValid, IsInvalidAt}
use Rattle.wasm_syntax.specs.ValidityTests.{invalid_at}
use Rattle.wasm_syntax.proofs.Places.{valid_if, invalid_if}
use Rattle.wasm_syntax.specs.EmptyModule.{empty_module}
use Rattle.wasm_syntax.proofs.ModuleExamples.{func_type, limits, constant, two_answers, two_answers_untyped, overwrite, grow_access, grow_failed, nested_call, table_entry, float_global, imported_offset, float_body, c_buffers, replay_two_answers, too_many_pages, max_pages}

-- ---- the plain tests decide this

abbrev is_nowhere : Option (Option ℕ) → Bool
is_nowhere None = true
is_nowhere (Some place) = false

abbrev same_func : Option ℕ → Option ℕ → Bool
same_func None None = true
same_func (Some a) (Some b) = nat_eq a b
same_func a b = false

abbrev is_place : Option ℕ → Option (Option ℕ) → Bool
is_place place None = false
is_place place (Some found) = same_func found place

nowhere : (o : Option (Option ℕ)) → is_nowhere o ≡ true → o ≡ None
nowhere None h = refl
nowhere (Some place) h = cc

same_func_true : (a b : Option ℕ) → same_func a b ≡ true → a ≡ b
same_func_true None None h = refl
same_func_true (Some a) (Some b) h = ap Some (eqb-true a b h)
same_func_true None (Some b) h = cc
same_func_true (Some a) None h = cc

found_place : (place : Option ℕ) (o : Option (Option ℕ)) → is_place place o ≡ true → o ≡ Some place
found_place place None h = cc
found_place place (Some found) h = ap Some (same_func_true found place h)

abbrev Row : Type 0
Row = Option ℕ × Module

all_valid : (ms : List Module) → list_all (λ m. is_nowhere (invalid_at m)) ms ≡ true → All IsValid ms
all_valid ms h k d below =
    valid_if (get_or ms k d) (nowhere (invalid_at (get_or ms k d)) (AllPass-from_list_all (λ m. is_nowhere (invalid_at m)) ms h k d below))

all_invalid : (rows : List Row) → list_all (λ (row : Row). is_place row.0 (invalid_at row.1)) rows ≡ true
    → All (λ (row : Row). IsInvalidAt row.1 row.0) rows
all_invalid rows h k d below =
    let row = get_or rows k d in
    invalid_if row.1 row.0 (found_place row.0 (invalid_at row.1) (AllPass-from_list_all (λ (r : Row). is_place r.0 (invalid_at r.1)) rows h k d below))

-- ---- valid modules

abbrev valid_modules : List Module
valid_modules =
    empty_module ∷ two_answers ∷ overwrite ∷ grow_access ∷ grow_failed ∷ nested_call ∷ table_entry ∷ float_global ∷ imported_offset ∷ float_body ∷ c_buffers
    ∷ replay_two_answers ∷ too_many_pages ∷ max_pages ∷ []

abbrev expression : Instr → List Instr
expression i = i ∷ End ∷ []

-- a function of the first type, with this body
abbrev body : List Instr → Function
body instrs = record { ty = 0; locals = []; body = instrs ++ End ∷ [] }

-- a module with a part of each kind
abbrev whole : Module
whole = record {
  types = func_type [] [] ∷ func_type (I32 ∷ F64 ∷ []) (I64 ∷ []) ∷ [];
  imports =
      record { «module» = codes "env"; name = codes "f"; kind = import.Func 1 }
      ∷ record { «module» = codes "env"; name = codes "b"; kind = import.Global (record { ty = I32; mutable = false }) }
      ∷ record { «module» = codes "env"; name = codes "m"; kind = import.Global (record { ty = I32; mutable = true }) }
      ∷ [];
  funcs = record { ty = 0; locals = record { count = 2; ty = F32 } ∷ []; body = Nop ∷ End ∷ [] } ∷ body (constant I32 0 ∷ RefFunc 0 ∷ TableSet 0 ∷ []) ∷ [];
  tables = limits 2 (Some 2) ∷ [];
  memories = limits 1 (Some 65536) ∷ [];
  globals =
      record { ty = record { ty = I64; mutable = true }; init = expression (constant I64 7) }
      ∷ record { ty = record { ty = I32; mutable = false }; init = expression (GlobalGet 0) } ∷ [];
  exports = record { name = codes "f"; kind = Func 1 } ∷ record { name = codes "g"; kind = Func 1 } ∷ record { name = codes "x"; kind = Global 1 } ∷ [];
  start = Some 1;
  elems = Active 0 (expression (GlobalGet 0)) (0 ∷ 2 ∷ []) ∷ Declared (1 ∷ []) ∷ [];
  datas = record { memory = 0; offset = expression (constant I32 0xFFFFFFFF); bytes = 1 ∷ 2 ∷ [] } ∷ [];
  customs = [];
}

-- a reference that an export alone declares
abbrev declared_by_export : Module
declared_by_export = record empty_module {
  types = func_type [] [] ∷ [];
  funcs = body [] ∷ body (constant I32 0 ∷ RefFunc 0 ∷ TableSet 0 ∷ []) ∷ [];
  tables = limits 1 None ∷ [];
  exports = record { name = codes "f"; kind = Func 0 } ∷ [];
}

-- a copy, a fill, a table that grows, a sign extension
abbrev three_numbers : List Instr
three_numbers = constant I32 0 ∷ constant I32 0 ∷ constant I32 0 ∷ []

abbrev wide_bodies : List Function
wide_bodies =
    body (three_numbers ++ MemoryCopy ∷ []) ∷ body (three_numbers ++ MemoryFill ∷ [])
    ∷ body (RefFunc 0 ∷ TableSize 0 ∷ TableGrow 0 ∷ Drop ∷ []) ∷ body (constant I64 0 ∷ Numeric 0xC3 ∷ Drop ∷ []) ∷ []

abbrev wide : Module
wide = record empty_module {
  types = func_type [] [] ∷ [];
  funcs = wide_bodies;
  tables = limits 1 None ∷ [];
  memories = limits 1 None ∷ [];
  exports = record { name = codes "f"; kind = Func 0 } ∷ [];
}

valid_modules_are : All IsValid (valid_modules ++ whole ∷ declared_by_export ∷ wide ∷ [])
valid_modules_are = all_valid (valid_modules ++ whole ∷ declared_by_export ∷ wide ∷ []) refl

-- ---- modules that are invalid outside their bodies

abbrev outside : Module → Row
outside m = (None, m)

abbrev with_import : ImportKind → Row
with_import kind =
    outside (record empty_module { imports = record { «module» = codes "env"; name = codes "f"; kind = kind } ∷ [] })

abbrev with_export : ExportKind → Row
with_export kind = outside (record whole { exports = record { name = codes "f"; kind = kind } ∷ [] })

abbrev with_global : ValType → List Instr → Row
with_global ty init =
    outside (record whole { globals = record { ty = record { ty = ty; mutable = false }; init = init } ∷ [] })

abbrev with_start : ℕ → Row
with_start f = outside (record whole { start = Some f })

abbrev with_elem : ElemSeg → Row
with_elem seg = outside (record whole { elems = seg ∷ [] })

abbrev with_data : ℕ → List Instr → Row
with_data memory offset =
    outside (record whole { datas = record { memory = memory; offset = offset; bytes = [] } ∷ [] })

abbrev invalid_outside : List Row
invalid_outside =
    -- a function type with two results, with a reference
    outside (record empty_module { types = func_type [] (I32 ∷ I32 ∷ []) ∷ [] })
    ∷ outside (record empty_module { types = func_type (FuncRef ∷ []) [] ∷ [] })
    ∷ outside (record empty_module { types = func_type [] (FuncRef ∷ []) ∷ [] })
    -- an import: no type of this index, limits, a reference
    ∷ with_import (import.Func 0)
    ∷ with_import (import.Table (limits 2 (Some 1)))
    ∷ with_import (import.Memory (limits 65537 None))
    ∷ with_import (import.Memory (limits 0 (Some 65537)))
    ∷ with_import (import.Global (record { ty = FuncRef; mutable = false }))
    -- a function: an absent type index, a local that is a reference
    ∷ outside (record empty_module { funcs = body [] ∷ [] })
    ∷ outside (record empty_module {
      types = func_type [] [] ∷ [];
      funcs = record { ty = 0; locals = record { count = 1; ty = FuncRef } ∷ []; body = End ∷ [] } ∷ [];
    })
    -- a table, a memory: limits
    ∷ outside (record empty_module { tables = limits 2 (Some 1) ∷ [] })
    ∷ outside (record empty_module { memories = limits 2 (Some 1) ∷ [] })
    ∷ outside (record empty_module { memories = limits 65537 None ∷ [] })
    ∷ outside (record empty_module { memories = limits 1 (Some 65537) ∷ [] })
    -- a global: another type, a reference, no instruction or two, no constant, a mutable, defined or absent global
    ∷ with_global I32 (expression (constant I64 0))
    ∷ with_global FuncRef (expression (constant FuncRef 0))
    ∷ with_global I32 (End ∷ [])
    ∷ with_global I32 (constant I32 0 ∷ constant I32 0 ∷ End ∷ [])
    ∷ with_global I32 (Nop ∷ constant I32 0 ∷ End ∷ [])
    ∷ with_global I32 (constant I32 0 ∷ [])
    ∷ with_global I32 (expression MemorySize)
    ∷ with_global I32 (expression (constant I32 (2 ^ 32)))
    ∷ with_global I32 (expression (GlobalGet 1))
    ∷ with_global I32 (expression (GlobalGet 2))
    ∷ with_global I32 (expression (GlobalGet 9))
    -- an export of what is not there, two of one name
    ∷ with_export (Func 3)
    ∷ with_export (Table 1)
    ∷ with_export (Memory 1)
    ∷ with_export (Global 4)
    ∷ outside (record whole {
      exports =
          record { name = codes "f"; kind = Func 1 } ∷ record { name = codes "g"; kind = Func 1 }
          ∷ record { name = codes "f"; kind = Memory 0 } ∷ [];
    })
    -- a start function that does not exist, that takes arguments, that gives a result
    ∷ with_start 3
    ∷ with_start 0
    ∷ outside (record empty_module { types = func_type [] (I32 ∷ []) ∷ []; funcs = body (constant I32 0 ∷ []) ∷ []; start = Some 0 })
    -- an element segment: no table, another type, a mutable global, no function
    ∷ with_elem (Active 1 (expression (constant I32 0)) [])
    ∷ outside (record empty_module { elems = Active 0 (expression (constant I32 0)) [] ∷ [] })
    ∷ with_elem (Active 0 (expression (constant I64 0)) [])
    ∷ with_elem (Active 0 (expression (GlobalGet 1)) [])
    ∷ with_elem (Active 0 (expression (constant I32 0)) (3 ∷ []))
    ∷ with_elem (Declared (3 ∷ []))
    -- a data segment: no memory, another type
    ∷ with_data 1 (expression (constant I32 0))
    ∷ outside (record empty_module { datas = record { memory = 0; offset = expression (constant I32 0); bytes = [] } ∷ [] })
    ∷ with_data 0 (expression (constant F32 0))
    -- two tables, two memories, one of them imported
    ∷ outside (record empty_module { tables = limits 0 None ∷ limits 0 None ∷ [] })
    ∷ outside (record empty_module { memories = limits 0 None ∷ limits 0 None ∷ [] })
    ∷ outside (record empty_module {
      imports = record { «module» = codes "env"; name = codes "m"; kind = import.Memory (limits 0 None) } ∷ [];
      memories = limits 0 None ∷ [];
    })
    -- a fault outside the bodies beside one inside
    ∷ outside (record two_answers_untyped { start = Some 0 })
    ∷ []

outside_are_invalid : All (λ (row : Row). IsInvalidAt row.1 row.0) invalid_outside
outside_are_invalid = all_invalid invalid_outside refl

-- ---- modules with a body that has no typing

abbrev invalid_inside : List Row
invalid_inside =
    (Some 1, two_answers_untyped)
    -- the first of two, after one import
    ∷ (Some 2, record whole { funcs = body [] ∷ body (Drop ∷ []) ∷ body [] ∷ body (Drop ∷ []) ∷ [] })
    -- no nest; a reference to a function that is neither in a segment nor exported
    ∷ (Some 0, record empty_module { types = func_type [] [] ∷ []; funcs = record { ty = 0; locals = []; body = End ∷ End ∷ [] } ∷ [] })
    ∷ (Some 0, record empty_module { types = func_type [] [] ∷ []; funcs = record { ty = 0; locals = []; body = [] } ∷ [] })
    ∷ (Some 1, record whole { funcs = body (constant I32 0 ∷ RefFunc 1 ∷ TableSet 0 ∷ []) ∷ []; exports = []; start = None; elems = [] })
    -- no memory, no table
    ∷ (Some 0, record wide { memories = [] })
    ∷ (Some 1, record wide { funcs = body [] ∷ body (three_numbers ++ MemoryFill ∷ []) ∷ []; memories = [] })
    ∷ (Some 2, record wide { tables = [] })
    ∷ []

inside_are_invalid : All (λ (row : Row). IsInvalidAt row.1 row.0) invalid_inside
inside_are_invalid = all_invalid invalid_inside refl
