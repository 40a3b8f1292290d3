-- Values of their types (Core 1.0, 4.2.1).
use Rattle.std.specs.Prelude.{◌≡◌, ℕ, ◌+◌, ◌^◌, ◌<◌, List}
use Rattle.std.specs.List.{AllZip}
use Rattle.wasm_syntax.specs.declared.values.ValType.{ValType}
use Rattle.wasm_syntax.specs.declared.values.ValType.TheVariants.{I32, I64, F32, F64, FuncRef}
use Rattle.wasm_syntax.specs.declared.values.Val.{Val}

-- the number of values of a type, given the number of functions: a reference is null or refers to one of the functions
abbrev pub count_of : (funcs : ℕ) → ValType → ℕ
count_of funcs I32 = 2 ^ 32
count_of funcs I64 = 2 ^ 64
count_of funcs F32 = 2 ^ 32
count_of funcs F64 = 2 ^ 64
count_of funcs FuncRef = funcs + 1

-- a value of a type, its bits in range
pub record IsValue (funcs : ℕ) (ty : ValType) (value : Val) : Type 0 where
  pub typed : value.ty ≡ ty
  pub in_range : value.bits < count_of funcs ty

-- values of these types, each of its own
abbrev pub AreValues : (funcs : ℕ) → List ValType → List Val → Type 0
AreValues funcs types values = AllZip (IsValue funcs) types values
