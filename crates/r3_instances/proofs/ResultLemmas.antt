-- The answer of a call that has one value, or that memory is out for.
use Rattle.std.proofs.Common.{◌≡◌, refl, sym, ◌∙◌, ap, subst, inl, inr, Result, Ok, Err}
use Rattle.std.specs.Result.{IsErrAnd}
use Rattle.r3_faults.specs.Answers.{IsExactValue}
use Rattle.r3_faults.specs.declared.faults.Fault.{Fault}
use Rattle.r3_faults.specs.declared.faults.Fault.TheVariants.{Memory}

-- a call without memory is exact
pub no_memory : {V : Type 0} (IsValue : V → Type 0) (Refusal : Fault → Type 0) → IsExactValue IsValue Refusal (Err Memory)
no_memory IsValue Refusal =
    record { taken = tt; cause = inl refl; refused = λ fault refusal. inr refl; accepted = λ value is. inr refl }

pub memory_answer : {V : Type 0} (IsValue : V → Type 0) (Refusal : Fault → Type 0) (r : Result V Fault)
    → IsErrAnd r (λ fault. fault ≡ Memory) → IsExactValue IsValue Refusal r
memory_answer IsValue Refusal (Ok v) memory = absurd memory
memory_answer {V} IsValue Refusal (Err fault) memory =
    subst (λ fault. IsExactValue IsValue Refusal (Err fault)) (sym memory) (no_memory IsValue Refusal)

-- the answer of a call that has one value and no refusal
pub value_answer : {V : Type 0} (meant v : V) → v ≡ meant → IsExactValue (λ v. v ≡ meant) (λ fault. ⊥) (Ok v)
value_answer meant v is = record {
  taken = is;
  cause = tt;
  refused = λ fault refusal. absurd refusal;
  accepted = λ other same. inl (ap Ok (is ∙ sym same));
}
