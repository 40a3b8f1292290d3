-- The file that the log of a file is reduced to, or why there is none.
use Rattle.std.specs.Prelude.{◌≡◌, ◌≤◌, ◌⊎◌, ℕ, List, [], ◌∷◌, length, Some, false}
use Rattle.base.specs.declared.outcomes.Outcome.{Outcome}
use Rattle.wasm_syntax.specs.declared.limits.TheConstants.{MAX_TRACE_BYTES}
use Rattle.trace_model.specs.Sink.{TookAlso}
use Rattle.trace_model.specs.declared.events.Event.{Event}
use Rattle.trace_model.specs.Balance.{IsBalanced, first_unbalanced}
use Rattle.trace_model.specs.declared.events.Log.{Log}
use Rattle.trace_model.specs.declared.tapes.Tape.{Tape}
use Rattle.trace_bytes.specs.declared.tags.TheConstants.{VERSION_2}
use Rattle.trace_bytes.specs.Spelled.{SpellsTape}
use Rattle.trace_format.specs.Faults.{IsLogOf}
use Rattle.record_replay_spec.specs.LogTapes.{IsLogTape}
use Rattle.trace_reduce.specs.Reducer.{HasTaken, HasTakenSince, imports_of, most_of}
use Rattle.trace_reduce.specs.declared.reducer.Reducer.{Reducer}
use Rattle.r3_faults.specs.declared.faults.Fault.{Fault}
use Rattle.r3_faults.specs.declared.faults.Fault.TheVariants.{Unbalanced}
use Rattle.r3_show.specs.FileLines.{IsUnshownAs}

-- a file, in the second version, of the tape of a balanced log, with a digest
pub record IsTapeFile (digest : List ℕ) (log : Log) (file : List ℕ) : Type 0 where
  pub balanced : IsBalanced log
  pub tape : Tape
  pub of_log : IsLogTape log tape
  pub spelled : SpellsTape VERSION_2 file digest tape

-- the file has the tape of the log that the bytes encode, with the log's digest
pub record IsReduced (bytes file : List ℕ) : Type 0 where
  pub digest : List ℕ
  pub log : Log
  pub read : IsLogOf bytes digest log
  pub made : IsTapeFile digest log file

-- ---- the reducer

-- a reducer takes one more event
abbrev pub TakesNext : (before : Reducer) → Event → (now : Reducer) → Type 0
TakesNext before event now = TookAlso HasTakenSince before now (event ∷ [])

-- a reducer has taken the events of a log, whose run ended with this outcome; the log has no more events than its file
-- may have bytes, and the tape may weigh as much
pub record HasTakenLog (reducer : Reducer) (outcome : Outcome) (log : Log) : Type 0 where
  pub taken : HasTaken reducer log.events
  pub few : length log.events ≤ MAX_TRACE_BYTES
  pub imports : imports_of reducer ≡ log.imports
  pub most : most_of reducer ≡ MAX_TRACE_BYTES
  pub ended : outcome ≡ log.outcome

-- a reducer has taken the events of the log that the bytes encode with this digest
pub record IsTaken (bytes digest : List ℕ) (reducer : Reducer) (outcome : Outcome) : Type 0 where
  pub log : Log
  pub read : IsLogOf bytes digest log
  pub has : HasTakenLog reducer outcome log

-- ---- refusals

-- the fault names the first event that is not allowed, or the number of events if only the outcome is not
-- allowed
pub record IsUnbalanced (log : Log) (fault : Fault) : Type 0 where
  pub event : ℕ
  pub first : first_unbalanced log ≡ Some event
  pub named : fault ≡ Unbalanced event

-- the log that the bytes encode is not balanced, and the fault names the first event or the number of events
pub record IsUnbalancedFile (bytes : List ℕ) (fault : Fault) : Type 0 where
  pub digest : List ℕ
  pub log : Log
  pub read : IsLogOf bytes digest log
  pub unbalanced : IsUnbalanced log fault

-- the bytes do not encode a log, or the log is not balanced
abbrev pub IsReduceRefusal : List ℕ → Fault → Type 0
IsReduceRefusal bytes fault = IsUnshownAs false bytes fault ⊎ IsUnbalancedFile bytes fault
