-- A call of two stages, of which the second one prints, is exact if both stages are.
use Rattle.std.proofs.Common.{◌≡◌, ◌⊎◌, inl, inr, ℕ, List, Vec, Result, Ok, Err, IfOk, IfErr, subst}
use Rattle.std.proofs.lemmas.Result.{IfErr-weaker, IfOk-weaker}
use Rattle.std.specs.Result.{IsErrAnd}
use Rattle.r3_faults.specs.Answers.{IsExact, IsExactValue, IsReplayAnswer}
use Rattle.r3_faults.specs.declared.faults.Fault.{Fault}
use Rattle.r3_faults.specs.declared.faults.Fault.TheVariants.{Memory}
use Rattle.r3_inputs.proofs.AnswerLemmas.{IsAnswer, answer-err, answer-passed, memory-err, not-printed, passed, value-no, value-one}

-- what a call prints and its refusals are, by those of its first stage and of its second
pub record AreTextStages {V : Type 0} (IsFirst : V → Type 0) (FirstRefusal : Fault → Type 0)
    (IsNext : V → List ℕ → Type 0) (NextRefusal : V → Fault → Type 0) (Printed : List ℕ → Type 0)
    (Refusal : Fault → Type 0) : Type 0 where
  pub whole : (v : V) (text : List ℕ) → IsFirst v → IsNext v text → Printed text
  pub first_refused : (fault : Fault) → FirstRefusal fault → Refusal fault
  pub next_refused : (v : V) (fault : Fault) → IsFirst v → NextRefusal v fault → Refusal fault
  pub refused_parts : (fault : Fault) → Refusal fault → FirstRefusal fault ⊎ ((v : V) × IsFirst v × NextRefusal v fault)

module _ {V Z : Type 0} {IsFirst : V → Type 0} {FirstRefusal : Fault → Type 0} {IsNext : V → List ℕ → Type 0}
    {NextRefusal : V → Fault → Type 0} {Printed : List ℕ → Type 0} {Refusal : Fault → Type 0}
    (staged : AreTextStages IsFirst FirstRefusal IsNext NextRefusal Printed Refusal) (q : Result V Fault)
    (first : IsExactValue IsFirst FirstRefusal q) (r : Result (Vec ℕ Z) Fault) where
  -- the first stage refuses, and the call passes its fault on
  module _ (err : Fault) (is : q ≡ Err err) (passes : IsErrAnd r (λ other. other ≡ err)) where
    stopped_cause : IfErr r (λ fault. (fault ≡ Memory) ⊎ Refusal fault)
    stopped_cause =
        passed r err (λ fault. (fault ≡ Memory) ⊎ Refusal fault) passes
        (elim (subst (λ q. IfErr q (λ fault. (fault ≡ Memory) ⊎ FirstRefusal fault)) is first.cause) [
          | inl memory ↦ inl memory
          | inr refused ↦ inr (staged.first_refused err refused)
        ])

    -- there is a value of the first stage, so memory is out
    no_value : (v : V) → IsFirst v → err ≡ Memory
    no_value v is_first = memory-err q v err is (first.accepted v is_first)

    stopped_refused : (fault : Fault) → FirstRefusal fault ⊎ ((v : V) × IsFirst v × NextRefusal v fault) → IsAnswer r fault
    stopped_refused fault (inl refusal) =
        answer-passed r err fault passes (answer-err q err fault is (first.refused fault refusal))
    stopped_refused fault (inr later) = answer-passed r err fault passes (inr (no_value later.0 later.1))

    pub text_stopped : ((text : List ℕ) → Printed text → (v : V) × IsFirst v × IsNext v text)
        → IsExact Printed Refusal r
    text_stopped parts = record {
      cause = stopped_cause;
      refused = λ fault refusal. stopped_refused fault (staged.refused_parts fault refusal);
      printed = not-printed r err (λ bytes. Printed bytes.items) passes;
      accepted = λ text printed.
          let part = parts text printed in (
            not-printed r err (λ bytes. bytes.items ≡ text) passes,
            passed r err (λ other. other ≡ Memory) passes (no_value part.0 part.1),
          );
    }

    pub replay_stopped : {Replayable : Type 0} (IsReplayable : V → Type 0)
        → (Replayable → (v : V) × IsFirst v × IsReplayable v) → IsReplayAnswer Printed Refusal Replayable r
    replay_stopped IsReplayable parts = record {
      cause = stopped_cause;
      refused = λ fault refusal. stopped_refused fault (staged.refused_parts fault refusal);
      printed = not-printed r err (λ bytes. Printed bytes.items) passes;
      accepted = λ these.
          let part = parts these in passed r err (λ other. other ≡ Memory) passes (no_value part.0 part.1);
    }

  -- the first stage gives a value
  module _ (v : V) (is : q ≡ Ok v) where
    value_is : IsFirst v
    value_is = subst (λ q. IfOk q IsFirst) is first.taken

    only_value : (other : V) → IsFirst other → other ≡ v
    only_value other is_first = value-one q v other is (first.accepted other is_first)

    next_refusal : (fault : Fault) → FirstRefusal fault ⊎ ((v : V) × IsFirst v × NextRefusal v fault) → NextRefusal v fault
    next_refusal fault (inl early) = absurd (value-no q v fault is (first.refused fault early))
    next_refusal fault (inr later) = subst (λ v. NextRefusal v fault) (only_value later.0 later.1) later.2

    next_cause : IfErr r (λ fault. (fault ≡ Memory) ⊎ NextRefusal v fault)
        → IfErr r (λ fault. (fault ≡ Memory) ⊎ Refusal fault)
    next_cause =
        IfErr-weaker r (λ fault. (fault ≡ Memory) ⊎ NextRefusal v fault) (λ fault. (fault ≡ Memory) ⊎ Refusal fault)
        (λ fault either. elim either [
          | inl memory ↦ inl memory
          | inr refusal ↦ inr (staged.next_refused v fault value_is refusal)
        ])

    next_printed : IfOk r (λ bytes. IsNext v bytes.items) → IfOk r (λ bytes. Printed bytes.items)
    next_printed =
        IfOk-weaker r (λ bytes. IsNext v bytes.items) (λ bytes. Printed bytes.items)
        (λ bytes is_next. staged.whole v bytes.items value_is is_next)

    pub text_goes_on : ((text : List ℕ) → Printed text → (v : V) × IsFirst v × IsNext v text)
        → IsExact (IsNext v) (NextRefusal v) r → IsExact Printed Refusal r
    text_goes_on parts next = record {
      cause = next_cause next.cause;
      refused = λ fault refusal. next.refused fault (next_refusal fault (staged.refused_parts fault refusal));
      printed = next_printed next.printed;
      accepted = λ text printed.
          let part = parts text printed in
          next.accepted text (subst (λ v. IsNext v text) (only_value part.0 part.1) part.2);
    }

    pub replay_goes_on : {Replayable : Type 0} (IsReplayable : V → Type 0)
        → (Replayable → (v : V) × IsFirst v × IsReplayable v)
        → IsReplayAnswer (IsNext v) (NextRefusal v) (IsReplayable v) r → IsReplayAnswer Printed Refusal Replayable r
    replay_goes_on IsReplayable parts next = record {
      cause = next_cause next.cause;
      refused = λ fault refusal. next.refused fault (next_refusal fault (staged.refused_parts fault refusal));
      printed = next_printed next.printed;
      accepted = λ these.
          let part = parts these in next.accepted (subst IsReplayable (only_value part.0 part.1) part.2);
    }
