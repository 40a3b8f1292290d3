-- The code that is inserted into the bodies of an instrumented module: calls of hooks around instructions.
use Rattle.std.specs.Prelude.{ℕ, ◌+◌, List, [], ◌∷◌, ◌++◌, cond, slice_get}
use Rattle.base.specs.declared.opcodes.TheConstants.{I32_WRAP_I64, I64_EXTEND_I32_U, I32_REINTERPRET_F32, I64_REINTERPRET_F64}
use Rattle.wasm_syntax.specs.declared.values.ValType.{ValType}
use Rattle.wasm_syntax.specs.declared.values.ValType.TheVariants.{I32, I64, F32, F64, FuncRef}
use Rattle.wasm_syntax.specs.declared.instructions.MemArg.{MemArg}
use Rattle.wasm_syntax.specs.declared.instructions.Instr.{Instr}
use Rattle.wasm_syntax.specs.declared.instructions.Instr.TheVariants as instrs
use Rattle.wasm_syntax.specs.declared.instructions.Instr.TheVariants.{Call, LocalGet, LocalSet, LocalTee, Const, Numeric}
use Rattle.wasm_syntax.specs.declared.modules.Module.{Module}
use Rattle.wasm_syntax.specs.Alike.{type_byte}
use Rattle.wasm_syntax.specs.Index.{imported_funcs, type_at, func_type, all_globals}
use Rattle.wasm_syntax.specs.Opcodes.{Access, load_of, store_of}
use Rattle.history_spec.specs.Code.{i32_value}
use Rattle.record_replay_spec.specs.declared.hooks.Hook.{Hook}
use Rattle.record_replay_spec.specs.declared.hooks.Hook.TheVariants.{Arg, Enter, Leave, Pre, Post, Ipre, Ipost, Load, Store, Size, Grow, Gget, Gset, Copy, Fill}
use Rattle.record_replay_spec.specs.Hooks.{hook_func, on}

-- ---- pieces of code

-- the function whose body is instrumented: its module, its index, and the number of its parameters and locals
pub record Site : Type 0 where
  pub m : Module
  pub func : ℕ
  pub locals : ℕ

-- the number of functions that the original imports
abbrev pub imports_at : Site → ℕ
imports_at s = imported_funcs s.m

-- the instruction that calls a hook
abbrev pub calls : Site → Hook → Instr
calls s kind = Call (hook_func (imports_at s) kind)

-- the instruction that pushes an i32
abbrev pub number : ℕ → Instr
number bits = Const (i32_value bits)

-- the local for an address or an index, after the function's own locals
abbrev pub address_local : Site → ℕ
address_local s = s.locals

-- the local for a value of a type, after the function's own locals
abbrev pub value_local : Site → ValType → ℕ
value_local s I32 = s.locals + 1
value_local s I64 = s.locals + 2
value_local s F32 = s.locals + 3
value_local s F64 = s.locals + 4
value_local s FuncRef = s.locals + 1

-- the instructions that convert a value on the stack to its bits, as an i64; no input has references
abbrev pub widened : ValType → List Instr
widened I32 = Numeric I64_EXTEND_I32_U ∷ []
widened I64 = []
widened F32 = Numeric I32_REINTERPRET_F32 ∷ Numeric I64_EXTEND_I32_U ∷ []
widened F64 = Numeric I64_REINTERPRET_F64 ∷ []
widened FuncRef = []

-- the instructions that push the bits of a local
abbrev pub bits_of_local : ValType → (local : ℕ) → List Instr
bits_of_local ty local = LocalGet local ∷ widened ty

-- the instructions that pass a local's value to the hook `arg`
abbrev pub reports_local : Site → ValType → (local : ℕ) → List Instr
reports_local s ty local = number (type_byte ty) ∷ (bits_of_local ty local ++ calls s Arg ∷ [])

-- the instructions that pass one number to a hook
abbrev pub reports_number : Site → Hook → ℕ → List Instr
reports_number s kind bits = number bits ∷ calls s kind ∷ []

-- the instructions that pass parameters to the hook `arg`, from a local on
abbrev pub reports_params : Site → (local : ℕ) → List ValType → List Instr
reports_params s local [] = []
reports_params s local (ty ∷ types) = reports_local s ty local ++ reports_params s (local + 1) types

-- ---- before and after an instruction

-- the code before a load
abbrev pub before_load : Site → MemArg → Access → List Instr
before_load s at access =
    LocalTee (address_local s) ∷ number at.offset ∷ number access.width ∷ calls s Load ∷ LocalGet (address_local s) ∷ []

-- the code before a store
abbrev pub before_store : Site → MemArg → Access → List Instr
before_store s at access =
    LocalSet (value_local s access.ty) ∷ LocalTee (address_local s) ∷ number at.offset ∷ number access.width
    ∷ (bits_of_local access.ty (value_local s access.ty)
    ++ calls s Store ∷ LocalGet (address_local s) ∷ LocalGet (value_local s access.ty) ∷ [])

-- the code around an access of a global, whose value is on the stack
abbrev pub reports_global : Site → Hook → (global : ℕ) → ValType → List Instr
reports_global s kind global ty =
    LocalSet (value_local s ty) ∷ number global
    ∷ (bits_of_local ty (value_local s ty) ++ calls s kind ∷ LocalGet (value_local s ty) ∷ [])

-- the operands of a copy or a fill: the first is in the local for a value of i64, the second in the local for an
-- address, the last in the local for a value of i32
abbrev pub range_operands : Site → List Instr
range_operands s =
    LocalGet (value_local s I64) ∷ Numeric I32_WRAP_I64 ∷ LocalGet (address_local s) ∷ LocalGet (value_local s I32) ∷ []

-- the code around the operands of a copy or a fill
abbrev pub reports_range : Site → Hook → List Instr
reports_range s kind =
    LocalSet (value_local s I32) ∷ LocalSet (address_local s) ∷ Numeric I64_EXTEND_I32_U ∷ LocalSet (value_local s I64)
    ∷ (range_operands s ++ calls s kind ∷ range_operands s)

-- the code that passes an index, or the result of a growth, on the stack to a hook
abbrev pub reports_index : Site → Hook → List Instr
reports_index s kind = LocalTee (address_local s) ∷ calls s kind ∷ LocalGet (address_local s) ∷ []

-- the code after a call with at most one result: it passes the result to a hook, reports the end of the call, and
-- leaves the result on the stack
abbrev pub after_call : Site → (over : List Instr) → (results : List ValType) → List Instr
after_call s over [] = over
after_call s over (ty ∷ types) =
    LocalSet (value_local s ty)
    ∷ (reports_local s ty (value_local s ty) ++ (over ++ LocalGet (value_local s ty) ∷ []))

-- the code inserted before an instruction
abbrev pub inserted_before : Site → Instr → List Instr
inserted_before s instrs.Return = reports_number s Leave s.func
inserted_before s (Call func) = reports_number s Pre func
inserted_before s (instrs.CallIndirect ty) = reports_index s Ipre
inserted_before s (instrs.Load at) = on (load_of at.op) (before_load s at)
inserted_before s (instrs.Store at) = on (store_of at.op) (before_store s at)
inserted_before s instrs.MemorySize = calls s Size ∷ []
inserted_before s (instrs.GlobalSet global) =
    on (slice_get (all_globals s.m) global) (λ ty. reports_global s Gset global ty.ty)
inserted_before s instrs.MemoryCopy = reports_range s Copy
inserted_before s instrs.MemoryFill = reports_range s Fill
inserted_before s i = []

-- the code inserted after an instruction; hooks report mutable globals alone
abbrev pub inserted_after : Site → Instr → List Instr
inserted_after s (Call func) =
    on (func_type s.m func) (λ ty. after_call s (reports_number s Post func) ty.results)
inserted_after s (instrs.CallIndirect ty) =
    on (type_at s.m ty) (λ found. after_call s (calls s Ipost ∷ []) found.results)
inserted_after s instrs.MemoryGrow = reports_index s Grow
inserted_after s (instrs.GlobalGet global) =
    on (slice_get (all_globals s.m) global) (λ ty. cond ty.mutable (reports_global s Gget global ty.ty) [])
inserted_after s i = []

-- the code before a body: it passes the parameters to hooks, and reports the entry of the function
abbrev pub inserted_at_enter : Site → (params : List ValType) → List Instr
inserted_at_enter s params = reports_params s 0 params ++ reports_number s Enter s.func

-- the code at the end of a body: it reports the end of the function
abbrev pub inserted_at_end : Site → List Instr
inserted_at_end s = reports_number s Leave s.func
