-- What a call that prints bytes, or gives another value, returns.
use Rattle.std.specs.Prelude.{◌≡◌, ◌⊎◌, ℕ, List, Vec, Result, Ok, Err, IfOk, IfErr}
use Rattle.r3_faults.specs.declared.faults.Fault.{Fault}
use Rattle.r3_faults.specs.declared.faults.Fault.TheVariants.{Memory}

-- the result has its cause: bytes that may be printed, or a fault that refuses them, or out of memory
pub record IsCaused {Z : Type 0} (Printed : List ℕ → Type 0) (Refusal : Fault → Type 0)
    (result : Result (Vec ℕ Z) Fault) : Type 0 where
  pub cause : IfErr result (λ fault. (fault ≡ Memory) ⊎ Refusal fault)
  pub printed : IfOk result (λ bytes. Printed bytes.items)

-- the result is exact: it has its cause; except for out of memory, a fault that refuses is returned, and bytes
-- that may be printed are returned
pub record IsExact {Z : Type 0} (Printed : List ℕ → Type 0) (Refusal : Fault → Type 0)
    (result : Result (Vec ℕ Z) Fault) : Type 0 where
  pub cause : IfErr result (λ fault. (fault ≡ Memory) ⊎ Refusal fault)
  pub refused : (fault : Fault) → Refusal fault → (result ≡ Err fault) ⊎ (result ≡ Err Memory)
  pub printed : IfOk result (λ bytes. Printed bytes.items)
  pub accepted : (text : List ℕ) → Printed text
      → IfOk result (λ bytes. bytes.items ≡ text) × IfErr result (λ fault. fault ≡ Memory)

-- The result has its cause: the bytes may be printed, or the fault refuses them, or memory is exhausted. If memory is
-- not exhausted, a fault that refuses is returned, and bytes are returned if there is a replay module.
pub record IsReplayAnswer {Z : Type 0} (Printed : List ℕ → Type 0) (Refusal : Fault → Type 0) (Replayable : Type 0)
    (result : Result (Vec ℕ Z) Fault) : Type 0 where
  pub cause : IfErr result (λ fault. (fault ≡ Memory) ⊎ Refusal fault)
  pub refused : (fault : Fault) → Refusal fault → (result ≡ Err fault) ⊎ (result ≡ Err Memory)
  pub printed : IfOk result (λ bytes. Printed bytes.items)
  pub accepted : Replayable → IfErr result (λ fault. fault ≡ Memory)

-- the result is exact: except for out of memory, it is the value, if there is one, or a fault that refuses
pub record IsExactValue {V : Type 0} (IsValue : V → Type 0) (Refusal : Fault → Type 0) (result : Result V Fault)
    : Type 0 where
  pub taken : IfOk result IsValue
  pub cause : IfErr result (λ fault. (fault ≡ Memory) ⊎ Refusal fault)
  pub refused : (fault : Fault) → Refusal fault → (result ≡ Err fault) ⊎ (result ≡ Err Memory)
  pub accepted : (value : V) → IsValue value → (result ≡ Ok value) ⊎ (result ≡ Err Memory)
