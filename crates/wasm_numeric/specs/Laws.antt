-- The law of the results of operations.
use Rattle.std.specs.Prelude.{◌≡◌, ℕ, ◌^◌, ◌<◌, ◌≤◌}
use Rattle.wasm_numeric.specs.Integer.{Bits}
use Rattle.wasm_numeric.specs.Opcode.{Unary, Binary, Convert, kind_of, width, width_of, result_of, test_of, compare_of, unary_of, binary_of, convert_of}

-- the result of an operation fits its type, if the first operand fits
pub record ResultsFit : Type 0 where
  pub test : (op a : ℕ) → test_of op a ≤ 1
  pub compare : (op a b : ℕ) → compare_of op a b ≤ 1
  pub unary : (op a : ℕ) → kind_of op ≡ Unary → unary_of op a < 2 ^ width (result_of op)
  pub binary : (op a b n : ℕ) → kind_of op ≡ Binary → a < 2 ^ width_of op → binary_of op a b ≡ Bits n
      → n < 2 ^ width (result_of op)
  pub convert : (op a : ℕ) → kind_of op ≡ Convert → a < 2 ^ width_of op → convert_of op a < 2 ^ width (result_of op)
