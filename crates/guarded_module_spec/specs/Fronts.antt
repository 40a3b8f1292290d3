-- Fronts: functions before both sides of the border, which compare the words of a call.
use Rattle.std.specs.Prelude.{ℕ, ◌+◌, List, [], ◌∷◌, ◌++◌, length, map, Bool, true, false}
use Rattle.std.specs.List.{range_with_len}
use Rattle.base.specs.declared.opcodes.TheConstants.{I64_EXTEND_I32_U, I32_REINTERPRET_F32, I64_REINTERPRET_F64}
use Rattle.wasm_syntax.specs.declared.values.ValType.{ValType}
use Rattle.wasm_syntax.specs.declared.values.ValType.TheVariants.{I32, I64, F32, F64}
use Rattle.wasm_syntax.specs.declared.signatures.FuncType.{FuncType}
use Rattle.wasm_syntax.specs.declared.instructions.Instr.{Instr}
use Rattle.wasm_syntax.specs.declared.instructions.Instr.TheVariants.{Unreachable, Call, LocalGet, LocalSet, Const, Numeric}
use Rattle.wasm_syntax.specs.declared.modules.Func.{Func}
use Rattle.wasm_syntax.specs.declared.modules.Run.{Run}
use Rattle.wasm_syntax.specs.Nest.{Empty}
use Rattle.replay_module_spec.specs.Dispatch.{sequence, body_of}
use Rattle.guarded_module_spec.specs.declared.numbers.Numbers.{Numbers}
use Rattle.guarded_module_spec.specs.Numbers.{behind, check_place}

-- code that makes the value on the stack a word: its bits as an i64
abbrev pub to_word : ValType → List Instr
to_word I32 = Numeric I64_EXTEND_I32_U ∷ []
to_word F32 = Numeric I32_REINTERPRET_F32 ∷ Numeric I64_EXTEND_I32_U ∷ []
to_word F64 = Numeric I64_REINTERPRET_F64 ∷ []
to_word ty = []

-- `i64.const` of these bits
abbrev pub i64_const : ℕ → Instr
i64_const bits = Const (record { ty = I64; bits = bits })

-- code that compares a number
abbrev pub check_number : Numbers → ℕ → List Instr
check_number n number = i64_const number ∷ Call (check_place n) ∷ []

-- code that compares the local of this index and type
abbrev pub check_local : Numbers → (local : ℕ) → ValType → List Instr
check_local n local ty = LocalGet local ∷ (to_word ty ++ Call (check_place n) ∷ [])

-- code that compares the locals of these types, which begin with this index
abbrev pub check_locals : Numbers → (first : ℕ) → List ValType → List Instr
check_locals n first [] = []
check_locals n first (ty ∷ types) = check_local n first ty ++ check_locals n (first + 1) types

-- code that pushes locals
abbrev pub local_gets : (first count : ℕ) → List Instr
local_gets first count = map LocalGet (range_with_len first count)

-- the code of the front of an import: it compares the number of the import and the arguments, and calls what was in the
-- place of the import
abbrev pub import_front_code : Numbers → FuncType → (import : ℕ) → List Instr
import_front_code n type import =
    check_number n import
    ++ (check_locals n 0 type.params ++ (local_gets 0 (length type.params) ++ Call (behind n import) ∷ []))

-- the front of an import, in its place
abbrev pub import_front : Numbers → FuncType → (import ty : ℕ) → Func
import_front n type import ty =
    record { ty = ty; locals = []; body = body_of (sequence (import_front_code n type import) Empty) }

-- a local of a type
abbrev pub one_local : ValType → Run
one_local ty = record { count = 1; ty = ty }

-- the code of the front of an original: it calls the function, keeps its result in a local, and compares the number of
-- the function and the result
abbrev pub func_front_code : Numbers → FuncType → (func : ℕ) → List Instr
func_front_code n type func =
    local_gets 0 (length type.params)
    ++ Call func
    ∷ (map (λ (ty : ValType). LocalSet (length type.params)) type.results
    ++ (check_number n func
    ++ (check_locals n (length type.params) type.results
    ++ local_gets (length type.params) (length type.results))))

-- the front of an original, by which functions outside call it; if none of these calls it, a trap
abbrev pub func_front : (called : Bool) → Numbers → FuncType → (func ty : ℕ) → Func
func_front true n type func ty =
    record {
      ty = ty;
      locals = map one_local type.results;
      body = body_of (sequence (func_front_code n type func) Empty);
    }
func_front false n type func ty =
    record { ty = ty; locals = []; body = body_of (sequence (Unreachable ∷ []) Empty) }
