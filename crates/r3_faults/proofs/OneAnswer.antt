-- What a result with its cause implies if there is at most one cause or one text.
use Rattle.std.proofs.Common.{◌≡◌, ◌⊎◌, ℕ, List, Vec, inl, inr, Result, Ok, Err, IfOk, IfErr, ap}
use Rattle.r3_faults.specs.Answers.{IsCaused, IsExact, IsReplayAnswer}
use Rattle.r3_faults.specs.declared.faults.Fault.{Fault}
use Rattle.r3_faults.specs.declared.faults.Fault.TheVariants.{Memory}

module _ {T R : Type 0} (IsResult : R → Type 0) (IsRefusal : Fault → Type 0)
    (apart : (x : R) (fault : Fault) → IsResult x → IsRefusal fault → ⊥) (answer : Result T Fault) (value : T → R)
    (printed : IfOk answer (λ x. IsResult (value x)))
    (cause : IfErr answer (λ fault. (fault ≡ Memory) ⊎ IsRefusal fault)) where
  pub refused_answer : ((fault other : Fault) → IsRefusal fault → IsRefusal other → fault ≡ other) → (fault : Fault)
      → IsRefusal fault → (answer ≡ Err fault) ⊎ (answer ≡ Err Memory)
  refused_answer one fault refusal = go answer printed cause
    where
      go : (r : Result T Fault) → IfOk r (λ x. IsResult (value x)) → IfErr r (λ f. (f ≡ Memory) ⊎ IsRefusal f)
          → (r ≡ Err fault) ⊎ (r ≡ Err Memory)
      go (Ok x) is why = absurd (apart (value x) fault is refusal)
      go (Err f) is (inl memory) = inr (ap Err memory)
      go (Err f) is (inr other) = inl (ap Err (one f fault other refusal))

  pub accepted_answer : ((x y : R) → IsResult x → IsResult y → x ≡ y) → (x : R) → IsResult x
      → IfOk answer (λ y. value y ≡ x) × IfErr answer (λ fault. fault ≡ Memory)
  accepted_answer one x result = go answer printed cause
    where
      go : (r : Result T Fault) → IfOk r (λ x. IsResult (value x)) → IfErr r (λ f. (f ≡ Memory) ⊎ IsRefusal f)
          → IfOk r (λ y. value y ≡ x) × IfErr r (λ f. f ≡ Memory)
      go (Ok y) is why = (one (value y) x is result, tt)
      go (Err f) is (inl memory) = (tt, memory)
      go (Err f) is (inr other) = absurd (apart x f result other)

-- a result with its cause is exact if at most one text is printed, at most one fault refuses, and never both
pub exact_answer : {Z : Type 0} (Printed : List ℕ → Type 0) (Refusal : Fault → Type 0)
    → ((x : List ℕ) (fault : Fault) → Printed x → Refusal fault → ⊥)
    → ((x y : List ℕ) → Printed x → Printed y → x ≡ y)
    → ((fault other : Fault) → Refusal fault → Refusal other → fault ≡ other)
    → (answer : Result (Vec ℕ Z) Fault) → IsCaused Printed Refusal answer → IsExact Printed Refusal answer
exact_answer Printed Refusal apart one_text one_cause answer is = record {
  cause = is.cause;
  refused = refused_answer Printed Refusal apart answer (λ bytes. bytes.items) is.printed is.cause one_cause;
  printed = is.printed;
  accepted = accepted_answer Printed Refusal apart answer (λ bytes. bytes.items) is.printed is.cause one_text;
}

-- if nothing refuses, a result with its cause fails only for want of memory
memory_alone : {T : Type 0} (Refusal : Fault → Type 0) → ((fault : Fault) → Refusal fault → ⊥) → (answer : Result T Fault)
    → IfErr answer (λ fault. (fault ≡ Memory) ⊎ Refusal fault) → IfErr answer (λ fault. fault ≡ Memory)
memory_alone Refusal none (Ok x) cause = tt
memory_alone Refusal none (Err fault) (inl memory) = memory
memory_alone Refusal none (Err fault) (inr refusal) = absurd (none fault refusal)

-- a result with its cause is the answer of a call that prints a replay module if at most one fault refuses, none refuses
-- what is printed, and none refuses where there is a replay module
pub replay_answer : {Z : Type 0} (Printed : List ℕ → Type 0) (Refusal : Fault → Type 0) (Replayable : Type 0)
    → ((x : List ℕ) (fault : Fault) → Printed x → Refusal fault → ⊥)
    → (Replayable → (fault : Fault) → Refusal fault → ⊥)
    → ((fault other : Fault) → Refusal fault → Refusal other → fault ≡ other)
    → (answer : Result (Vec ℕ Z) Fault) → IsCaused Printed Refusal answer
    → IsReplayAnswer Printed Refusal Replayable answer
replay_answer Printed Refusal Replayable apart none one_cause answer is = record {
  cause = is.cause;
  refused = refused_answer Printed Refusal apart answer (λ bytes. bytes.items) is.printed is.cause one_cause;
  printed = is.printed;
  accepted = λ these. memory_alone Refusal (none these) answer is.cause;
}
