-- Whether values are of types.
use Rattle.std.specs.Prelude.{List, [], ◌∷◌, Bool, true, false, ◌&&◌}
use Rattle.wasm_syntax.specs.declared.values.ValType.{ValType}
use Rattle.wasm_syntax.specs.declared.values.Val.{Val}
use Rattle.wasm_syntax.specs.Alike.{same_type}
use Rattle.wasm_syntax.specs.Typing.{is_constant}

-- a value of a number type, in range
abbrev pub is_of : ValType → Val → Bool
is_of ty value = same_type ty value.ty && is_constant value

-- values, each of its own type
abbrev pub are_of : List ValType → List Val → Bool
are_of [] [] = true
are_of [] (value ∷ values) = false
are_of (ty ∷ types) [] = false
are_of (ty ∷ types) (value ∷ values) = is_of ty value && are_of types values
