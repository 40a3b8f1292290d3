-- What is returned for a log: its tape, the tape's weight if it is too heavy, or why there is no tape.
use Rattle.std.specs.Prelude.{◌≡◌, ℕ, ◌-◌, ◌^◌, ◌≤◌, ◌<◌, ◌⊎◌, Some, min, Result, Ok, Err}
use Rattle.trace_model.specs.Balance.{IsBalanced, first_unbalanced}
use Rattle.trace_model.specs.Weight.{tape_weight}
use Rattle.trace_model.specs.declared.events.Log.{Log}
use Rattle.trace_model.specs.declared.tapes.Tape.{Tape}
use Rattle.record_replay_spec.specs.LogTapes.{IsLogTape}
use Rattle.trace_reduce.specs.declared.faults.ReduceFault.{ReduceFault}
use Rattle.trace_reduce.specs.declared.faults.ReduceFault.TheVariants as faults
use Rattle.trace_reduce.specs.declared.faults.ReducerFault.{ReducerFault}
use Rattle.trace_reduce.specs.declared.faults.ReducerFault.TheVariants.{Unbalanced, TooHeavy, Memory}

-- the weight that is reported: the tape's weight, or the greatest number of 64 bits if it is more
abbrev pub reported_weight : Tape → ℕ
reported_weight tape = min (tape_weight tape) (2 ^ 64 - 1)

-- the number that is reported for a place in a log: the place, or the greatest number of 64 bits if it is more
abbrev pub reported_place : ℕ → ℕ
reported_place place = min place (2 ^ 64 - 1)

-- the number that is reported for the first event of a log that is not allowed, or for its outcome if only that is not
-- allowed
pub record IsFirstUnbalanced (log : Log) (number : ℕ) : Type 0 where
  pub place : ℕ
  pub first : first_unbalanced log ≡ Some place
  pub reported : number ≡ reported_place place

-- one of these tapes weighs more than the limit, and its weight is reported
pub record IsTooHeavy (IsTape : Tape → Type 0) (most weight : ℕ) : Type 0 where
  pub tape : Tape
  pub is : IsTape tape
  pub passes : most < tape_weight tape
  pub reported : weight ≡ reported_weight tape

-- the result is one of these tapes that is light enough, or the weight of one that is too heavy
abbrev pub IsWeighed : (IsTape : Tape → Type 0) → (most : ℕ) → Result Tape ReducerFault → Type 0
IsWeighed IsTape most (Ok tape) = IsTape tape × (tape_weight tape ≤ most)
IsWeighed IsTape most (Err (Unbalanced event)) = ⊥
IsWeighed IsTape most (Err (TooHeavy weight)) = IsTooHeavy IsTape most weight
IsWeighed IsTape most (Err Memory) = Unit {0}

-- what a reducer returns for a log, with the limit `most` for the tape's weight; out of memory has no cause in
-- the log
abbrev pub IsAnswer : (most : ℕ) → Log → Result Tape ReducerFault → Type 0
IsAnswer most log (Ok tape) = IsBalanced log × (IsLogTape log tape × (tape_weight tape ≤ most))
IsAnswer most log (Err (Unbalanced event)) = IsFirstUnbalanced log event
IsAnswer most log (Err (TooHeavy weight)) = IsBalanced log × IsTooHeavy (IsLogTape log) most weight
IsAnswer most log (Err Memory) = Unit {0}

-- what is returned for a log without a limit for the tape's weight
abbrev pub IsReduction : Log → Result Tape ReduceFault → Type 0
IsReduction log (Ok tape) = IsBalanced log × IsLogTape log tape
IsReduction log (Err (faults.Unbalanced event)) = first_unbalanced log ≡ Some event
IsReduction log (Err faults.Memory) = Unit {0}

-- ---- laws

-- a result that is due is returned, unless memory runs out; a log has at most one tape
pub record IsExact (most : ℕ) (log : Log) (answer : Result Tape ReducerFault) : Type 0 where
  pub unbalanced : (place : ℕ) → first_unbalanced log ≡ Some place
      → (answer ≡ Err (Unbalanced (reported_place place))) ⊎ (answer ≡ Err Memory)
  pub heavy : (tape : Tape) → IsBalanced log → IsLogTape log tape → most < tape_weight tape
      → (answer ≡ Err (TooHeavy (reported_weight tape))) ⊎ (answer ≡ Err Memory)
  pub light : (tape : Tape) → IsBalanced log → IsLogTape log tape → tape_weight tape ≤ most
      → (answer ≡ Ok tape) ⊎ (answer ≡ Err Memory)

-- a reducer returns the result that is due, unless memory runs out: the log's tape, the weight of a tape that is too
-- heavy, or the first unbalanced event
abbrev pub AnswersAreExact : Type 0
AnswersAreExact =
    (most : ℕ) (log : Log) (answer : Result Tape ReducerFault) → IsAnswer most log answer → IsExact most log answer

-- a result without a limit for the tape's weight that is due is returned, unless memory runs out
pub record IsExactReduction (log : Log) (answer : Result Tape ReduceFault) : Type 0 where
  pub unbalanced : (event : ℕ) → first_unbalanced log ≡ Some event
      → (answer ≡ Err (faults.Unbalanced event)) ⊎ (answer ≡ Err faults.Memory)
  pub reduced : (tape : Tape) → IsBalanced log → IsLogTape log tape
      → (answer ≡ Ok tape) ⊎ (answer ≡ Err faults.Memory)

-- without a limit for the tape's weight, the result that is due is returned, unless memory runs out: the log's tape, or
-- the first unbalanced event
abbrev pub ReductionsAreExact : Type 0
ReductionsAreExact =
    (log : Log) (answer : Result Tape ReduceFault) → IsReduction log answer → IsExactReduction log answer
