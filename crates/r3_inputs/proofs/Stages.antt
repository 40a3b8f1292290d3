-- A call of two stages is exact if both stages are.
use Rattle.std.proofs.Common.{◌≡◌, ◌⊎◌, inl, inr, Result, Ok, Err, IfOk, IfErr, refl, sym, ◌∙◌, ap, subst}
use Rattle.std.specs.Result.{IsErrAnd}
use Rattle.r3_faults.specs.Answers.{IsExactValue}
use Rattle.r3_faults.specs.declared.faults.Fault.{Fault}
use Rattle.r3_faults.specs.declared.faults.Fault.TheVariants.{Memory}
use Rattle.r3_inputs.proofs.AnswerLemmas.{IsAnswer, answer-err, answer-passed, memory-err, not-printed, passed, value-no, value-one}

-- what the values and the refusals of a call are by those of its first stage and of its second
pub record AreStaged {V W : Type 0} (IsFirst : V → Type 0) (FirstRefusal : Fault → Type 0) (IsNext : V → W → Type 0)
    (NextRefusal : V → Fault → Type 0) (IsWhole : W → Type 0) (WholeRefusal : Fault → Type 0) : Type 0 where
  pub whole : (v : V) (w : W) → IsFirst v → IsNext v w → IsWhole w
  pub parts : (w : W) → IsWhole w → (v : V) × IsFirst v × IsNext v w
  pub first_refused : (fault : Fault) → FirstRefusal fault → WholeRefusal fault
  pub next_refused : (v : V) (fault : Fault) → IsFirst v → NextRefusal v fault → WholeRefusal fault
  pub refused_parts : (fault : Fault) → WholeRefusal fault → FirstRefusal fault ⊎ ((v : V) × IsFirst v × NextRefusal v fault)

module _ {V W : Type 0} {IsFirst : V → Type 0} {FirstRefusal : Fault → Type 0} {IsNext : V → W → Type 0}
    {NextRefusal : V → Fault → Type 0} {IsWhole : W → Type 0} {WholeRefusal : Fault → Type 0}
    (staged : AreStaged IsFirst FirstRefusal IsNext NextRefusal IsWhole WholeRefusal) (q : Result V Fault)
    (first : IsExactValue IsFirst FirstRefusal q) where
  -- the first stage refuses, and the call passes its fault on
  module _ (err : Fault) (is : q ≡ Err err) (r : Result W Fault) (passes : IsErrAnd r (λ other. other ≡ err)) where
    cause_of : (err ≡ Memory) ⊎ WholeRefusal err
    cause_of = elim (subst (λ q. IfErr q (λ fault. (fault ≡ Memory) ⊎ FirstRefusal fault)) is first.cause) [
      | inl memory ↦ inl memory
      | inr refused ↦ inr (staged.first_refused err refused)
    ]

    refused_by : (fault : Fault) → FirstRefusal fault ⊎ ((v : V) × IsFirst v × NextRefusal v fault) → IsAnswer r fault
    refused_by fault (inl refusal) = answer-passed r err fault passes (answer-err q err fault is (first.refused fault refusal))
    refused_by fault (inr later) =
        answer-passed r err fault passes (inr (memory-err q later.0 err is (first.accepted later.0 later.1)))

    accepted_by : (w : W) → (v : V) × IsFirst v × IsNext v w → (r ≡ Ok w) ⊎ (r ≡ Err Memory)
    accepted_by w parts =
        elim (answer-passed r err Memory passes (inl (memory-err q parts.0 err is (first.accepted parts.0 parts.1)))) [
          | inl memory ↦ inr memory
          | inr memory ↦ inr memory
        ]

    pub stopped : IsExactValue IsWhole WholeRefusal r
    stopped = record {
      taken = not-printed r err IsWhole passes;
      cause = passed r err (λ fault. (fault ≡ Memory) ⊎ WholeRefusal fault) passes cause_of;
      refused = λ fault refusal. refused_by fault (staged.refused_parts fault refusal);
      accepted = λ w is. accepted_by w (staged.parts w is);
    }

  -- the first stage gives a value
  module _ (v : V) (is : q ≡ Ok v) where
    pub first_is : IsFirst v
    first_is = subst (λ q. IfOk q IsFirst) is first.taken

    same : (other : V) → IsFirst other → other ≡ v
    same other is_first = value-one q v other is (first.accepted other is_first)

    pub next_refusal : (fault : Fault) → WholeRefusal fault → NextRefusal v fault
    next_refusal fault refusal = elim (staged.refused_parts fault refusal) [
      | inl early ↦ absurd (value-no q v fault is (first.refused fault early))
      | inr later ↦ subst (λ v. NextRefusal v fault) (same later.0 later.1) later.2
    ]

    pub next_value : (w : W) → IsWhole w → IsNext v w
    next_value w whole =
        let parts = staged.parts w whole in subst (λ v. IsNext v w) (same parts.0 parts.1) parts.2

    pub goes_on : (r : Result W Fault) → IsExactValue (IsNext v) (NextRefusal v) r → IsExactValue IsWhole WholeRefusal r
    goes_on r next = record {
      taken = taken_by r next.taken;
      cause = cause_by r next.cause;
      refused = λ fault refusal. next.refused fault (next_refusal fault refusal);
      accepted = λ w whole. next.accepted w (next_value w whole);
    }
      where
        taken_by : (r : Result W Fault) → IfOk r (IsNext v) → IfOk r IsWhole
        taken_by (Ok w) is_next = staged.whole v w first_is is_next
        taken_by (Err fault) is_next = tt

        cause_by : (r : Result W Fault) → IfErr r (λ fault. (fault ≡ Memory) ⊎ NextRefusal v fault)
            → IfErr r (λ fault. (fault ≡ Memory) ⊎ WholeRefusal fault)
        cause_by (Ok w) cause = tt
        cause_by (Err fault) (inl memory) = inl memory
        cause_by (Err fault) (inr refusal) = inr (staged.next_refused v fault first_is refusal)
