-- What code keeps of the types of several functions, to see in one step what holds for all of them.
use Rattle.std.specs.Prelude.{◌≡◌, ℕ, List, [], ◌∷◌, length, ◌==◌, ◌&&◌, Bool, true, Option, Some, None, unwrap_or, slice_get}
use Rattle.std.specs.List.{list_all}
use Rattle.wasm_syntax.specs.declared.values.ValType.{ValType}
use Rattle.wasm_syntax.specs.declared.values.Val.{Val}
use Rattle.wasm_syntax.specs.declared.signatures.FuncType.{FuncType}
use Rattle.script_text.specs.Actions.{takes_i32}
use Rattle.script_text.specs.Texts.{returns}

-- the number of parameters of the first type
abbrev pub params_of_first : List FuncType → ℕ
params_of_first [] = 0
params_of_first (first ∷ types) = length first.params

-- for each parameter of the first type, a flag: all types have this parameter as an i32
pub record HoldsFlags (flags : List Bool) (types : List FuncType) : Type 0 where
  pub takes : (number : ℕ) → unwrap_or (slice_get flags number) (length types == 0) ≡ list_all (takes_i32 number) types

-- a value of these types, or no value if the list is empty; nothing if the list has more than one type
abbrev pub value_of_types : List ValType → Option (Option Val)
value_of_types [] = Some None
value_of_types (ty ∷ []) = Some (Some (record { ty = ty; bits = 0 }))
value_of_types (ty ∷ more ∷ types) = None

-- all functions return what this value is: they return alike, and the first returns it
abbrev pub all_return_value : Bool → List FuncType → Option Val → Bool
all_return_value alike [] value = true
all_return_value alike (first ∷ types) value = alike && returns value first

pub record HoldsReturns (alike : Bool) (types : List FuncType) : Type 0 where
  pub decides : (value : Option Val) → all_return_value alike types value ≡ list_all (returns value) types
