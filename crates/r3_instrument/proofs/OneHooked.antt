-- A module has at most one instrumented module in bytes, and otherwise one fault.
use Rattle.std.proofs.Common.{◌≡◌, ℕ, ◌<◌, ◌≤◌, List, Vec, length, Result, sym, ◌∙◌, arith}
use Rattle.wasm_syntax.specs.declared.limits.TheConstants.{MAX_INSTRUMENTED_BYTES}
use Rattle.wasm_syntax.specs.declared.modules.Module.{Module}
use Rattle.r3_faults.specs.Answers.{IsCaused, IsExact}
use Rattle.r3_faults.specs.declared.faults.Fault.{Fault}
use Rattle.r3_faults.proofs.OneAnswer.{exact_answer}
use Rattle.r3_instrument.specs.InstrumentedBytes.{IsHooked, IsTooLong, hooked_bytes}

-- what fits is not too long
too_long : (bytes : List ℕ) (m : Module) (text : List ℕ) (fault : Fault) → IsHooked bytes m text
    → IsTooLong bytes m fault → ⊥
too_long bytes m text fault is long = least (length (hooked_bytes bytes m)) is.within long.long
  where
    least : (n : ℕ) → n ≤ MAX_INSTRUMENTED_BYTES → MAX_INSTRUMENTED_BYTES < n → ⊥
    least n a b = omega (arith, a, b)

-- a result with its cause is exact
pub exact : {Z : Type 0} (bytes : List ℕ) (m : Module) (r : Result (Vec ℕ Z) Fault)
    → IsCaused (IsHooked bytes m) (IsTooLong bytes m) r → IsExact (IsHooked bytes m) (IsTooLong bytes m) r
exact bytes m =
    exact_answer (IsHooked bytes m) (IsTooLong bytes m) (too_long bytes m) (λ x y one two. one.same ∙ sym two.same)
    (λ fault other one two. one.named ∙ sym two.named)
