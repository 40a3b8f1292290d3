-- Values of number types, their bits within the types' widths, are values of their types.
use Rattle.std.proofs.Common.{◌≡◌, ℕ, ◌^◌, ◌<◌, List, [], ◌∷◌, true, ◌&&◌, refl, subst}
use Rattle.std.specs.Prelude.{nat_lt, IsTrue}
use Rattle.std.proofs.lemmas.Bool.{ltb-true}
use Rattle.std.proofs.lemmas.List.Elements.{All-head, All-tail}
use Rattle.wasm_syntax.specs.declared.values.ValType.{ValType}
use Rattle.wasm_syntax.specs.declared.values.ValType.TheVariants.{I32, I64, F32, F64, FuncRef}
use Rattle.wasm_syntax.specs.declared.values.Val.{Val}
use Rattle.wasm_syntax.specs.Typing.{is_number, bits_of, is_constant}
use Rattle.host_script.specs.Fits.{AreConstants, AreOfTypes}
use Rattle.history_spec.specs.Code.{types_of}
use Rattle.type_safety.specs.Values.{count_of, IsValue, AreValues}

pub number_in_range : (n : ℕ) (t : ValType) (bits : ℕ) → (is_number t && nat_lt bits (2 ^ bits_of t)) ≡ true
    → bits < count_of n t
number_in_range n I32 bits h = ltb-true bits (2 ^ 32) h
number_in_range n I64 bits h = ltb-true bits (2 ^ 64) h
number_in_range n F32 bits h = ltb-true bits (2 ^ 32) h
number_in_range n F64 bits h = ltb-true bits (2 ^ 64) h
number_in_range n FuncRef bits h = cc

pub constant_value : (n : ℕ) (value : Val) → IsTrue (is_constant value) → IsValue n value.ty value
constant_value n value h = record { typed = refl; in_range = number_in_range n value.ty value.bits h }

pub constants_values : (n : ℕ) (values : List Val) → AreConstants values → AreValues n (types_of values) values
constants_values n [] h = tt
constants_values n (value ∷ values) h = (
  constant_value n value (All-head (λ v. IsTrue (is_constant v)) value values h),
  constants_values n values
      (All-tail (λ v. IsTrue (is_constant v)) value values h),
)

pub fit_values : (n : ℕ) (types : List ValType) (values : List Val) → AreOfTypes types values → AreValues n types values
fit_values n types values fit = subst (λ ts. AreValues n ts values) fit.typed (constants_values n values fit.in_range)
