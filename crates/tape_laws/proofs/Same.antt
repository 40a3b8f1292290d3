-- The value in a list of an optional value.
use Rattle.std.proofs.Common.{◌≡◌, Option, Some, None, slice_get, option_to_list, refl}
use Rattle.wasm_syntax.specs.declared.values.Val.{Val}

pub listed_value : (o : Option Val) → slice_get (option_to_list o) 0 ≡ o
listed_value None = refl
listed_value (Some value) = refl
