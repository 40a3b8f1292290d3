-- The arguments of hook calls.
use Rattle.std.specs.Prelude.{◌≡◌, ℕ, suc, List, [], ◌∷◌, true}
use Rattle.wasm_syntax.specs.declared.values.Val.{Val}
use Rattle.wasm_syntax.specs.declared.values.ValType.{ValType}
use Rattle.wasm_syntax.specs.Alike.{same_types}
use Rattle.history_spec.specs.Code.{types_of}
use Rattle.history_spec.specs.Instruction.{bits_at}

-- the arguments from an index on have these bits
abbrev pub HaveBits : (args : List Val) (at : ℕ) (bits : List ℕ) → Type 0
HaveBits args at [] = Unit {0}
HaveBits args at (b ∷ bits) = (bits_at args at ≡ b) × HaveBits args (suc at) bits

-- arguments of these types with these bits
pub record AreArgs (types : List ValType) (args : List Val) (bits : List ℕ) : Type 0 where
  pub typed : same_types types (types_of args) ≡ true
  pub reported : HaveBits args 0 bits
