-- The weights of inserted instructions.
use Rattle.std.proofs.Common.{◌≡◌, List, [], ◌∷◌, length, replicate, refl, ap}
use Rattle.wasm_syntax.specs.declared.instructions.Instr.{Instr}
use Rattle.record_replay_spec.specs.Instrumented.{weightless}

-- the weights of inserted instructions are zeros
pub weightless_are : (is : List Instr) → replicate (length is) 0 ≡ weightless is
weightless_are [] = refl
weightless_are (i ∷ is) = ap (λ weights. 0 ∷ weights) (weightless_are is)
