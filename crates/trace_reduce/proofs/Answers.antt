-- What is returned: tapes that are light enough, and no other result if one is due.
use Rattle.std.proofs.Common.{◌≡◌, ℕ, ◌-◌, ◌^◌, ◌≤◌, ◌<◌, inl, inr, List, Option, Some, None, Result, Ok, Err, refl, ap, ◌∙◌, subst, arith}
use Rattle.trace_model.specs.Balance.{IsBalanced, first_unbalanced}
use Rattle.std.specs.Prelude.{min, sum_by}
use Rattle.trace_model.specs.Weight.{segment_weight, tape_weight}
use Rattle.trace_model.specs.declared.events.Log.{Log}
use Rattle.trace_model.specs.declared.tapes.Segment.{Segment}
use Rattle.trace_model.specs.declared.tapes.Tape.{Tape}
use Rattle.record_replay_spec.specs.LogTapes.{IsLogTape}
use Rattle.record_replay_spec.specs.HookLaws.{LogTapeIsOne}
use Rattle.trace_reduce.specs.declared.faults.ReduceFault.TheVariants as faults
use Rattle.trace_reduce.specs.declared.faults.ReducerFault.{ReducerFault}
use Rattle.trace_reduce.specs.declared.faults.ReducerFault.TheVariants.{Unbalanced, TooHeavy, Memory}
use Rattle.trace_reduce.specs.declared.limited_tape.LimitedTape.{LimitedTape}
use Rattle.trace_reduce.specs.LimitedTape.{IsSoFar}
use Rattle.trace_reduce.specs.Answers.{IsTooHeavy, IsWeighed, IsAnswer, AnswersAreExact, ReductionsAreExact, reported_place, reported_weight}

-- a result for tapes of one kind is a result for tapes of another
pub weighed_as : (P Q : Tape → Type 0) (most : ℕ) → ((tape : Tape) → P tape → Q tape) → (answer : Result Tape ReducerFault)
    → IsWeighed P most answer → IsWeighed Q most answer
weighed_as P Q most f (Ok tape) h = (f tape h.0, h.1)
weighed_as P Q most f (Err (Unbalanced event)) h = h
weighed_as P Q most f (Err (TooHeavy weight)) h =
    record { tape = h.tape; is = f h.tape h.is; passes = h.passes; reported = h.reported }
weighed_as P Q most f (Err Memory) h = h

-- the result if all events are balanced
pub answer_in_order : (most : ℕ) (log : Log) (answer : Result Tape ReducerFault) → IsBalanced log
    → IsWeighed (IsLogTape log) most answer → IsAnswer most log answer
answer_in_order most log (Ok tape) balanced h = (balanced, h)
answer_in_order most log (Err (Unbalanced event)) balanced h = absurd h
answer_in_order most log (Err (TooHeavy weight)) balanced h = (balanced, h)
answer_in_order most log (Err Memory) balanced h = h

-- ---- each result that is due

none_some : {X : Type 0} (o : Option X) (x : X) → o ≡ None → o ≡ Some x → ⊥
none_some None x h k = cc
none_some (Some y) x h k = cc

some_same : {X : Type 0} (o : Option X) (x y : X) → o ≡ Some x → o ≡ Some y → x ≡ y
some_same None x y h k = cc
some_same (Some z) x y h k = cc

too_much : (a b : ℕ) → a ≤ b → b < a → ⊥
too_much a b le less = omega (arith, le, less)

module _ (one : LogTapeIsOne) where
  pub exact : AnswersAreExact
  exact most log (Ok tape) h =
      record {
        unbalanced = λ event is. absurd (none_some (first_unbalanced log) event h.0 is);
        heavy = λ other balanced is passes.
            absurd (too_much (tape_weight other) most (subst (λ t. tape_weight t ≤ most) (one log tape other h.1.0 is) h.1.1) passes);
        light = λ other balanced is weight. inl (ap Ok (one log tape other h.1.0 is));
      }
  exact most log (Err (Unbalanced event)) h =
      record {
        unbalanced = λ place is.
            inl (ap (λ n. Err (Unbalanced n)) (h.reported ∙ ap reported_place (some_same (first_unbalanced log) h.place place h.first is)));
        heavy = λ tape balanced is passes. absurd (none_some (first_unbalanced log) h.place balanced h.first);
        light = λ tape balanced is weight. absurd (none_some (first_unbalanced log) h.place balanced h.first);
      }
  exact most log (Err (TooHeavy weight)) h =
      record {
        unbalanced = λ event is. absurd (none_some (first_unbalanced log) event h.0 is);
        heavy = λ tape balanced is passes.
            inl (ap (λ w. Err (TooHeavy w)) (h.1.reported ∙ ap reported_weight (one log h.1.tape tape h.1.is is)));
        light = λ tape balanced is light.
            absurd (too_much (tape_weight tape) most light (subst (λ t. most < tape_weight t) (one log h.1.tape tape h.1.is is) h.1.passes));
      }
  exact most log (Err Memory) h =
      record {
        unbalanced = λ event is. inr refl;
        heavy = λ tape balanced is passes. inr refl;
        light = λ tape balanced is light. inr refl;
      }

  pub exact_reduction : ReductionsAreExact
  exact_reduction log (Ok tape) h =
      record {
        unbalanced = λ event is. absurd (none_some (first_unbalanced log) event h.0 is);
        reduced = λ other balanced is. inl (ap Ok (one log tape other h.1 is));
      }
  exact_reduction log (Err (faults.Unbalanced event)) h =
      record {
        unbalanced = λ number is.
            inl (ap (λ n. Err (faults.Unbalanced n)) (some_same (first_unbalanced log) event number h is));
        reduced = λ tape balanced is. absurd (none_some (first_unbalanced log) event balanced h);
      }
  exact_reduction log (Err faults.Memory) h =
      record { unbalanced = λ event is. inr refl; reduced = λ tape balanced is. inr refl }

-- ---- the segments so far

pub heavy_answer : (tape : LimitedTape) (segments : List Segment) → IsSoFar tape segments → tape.most < tape.weight
    → IsTooHeavy (λ (t : Tape). t.segments ≡ segments) tape.most tape.weight
heavy_answer tape segments h over =
    record {
      tape = record { segments = segments };
      is = refl;
      passes = passing (sum_by segment_weight segments) h.weighed over;
      reported = h.weighed;
    }
  where
    passing : (whole : ℕ) → tape.weight ≡ min whole (2 ^ 64 - 1) → tape.most < tape.weight → tape.most < whole
    passing whole weighed over = grind (arith, weighed, over)
