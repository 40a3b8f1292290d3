-- What a call returns for the log of a run.
use Rattle.std.specs.Prelude.{◌≡◌, ℕ, ◌<◌, ◌≤◌, ◌-◌, ◌^◌, ◌⊎◌, min, List, Result, Ok, Err}
use Rattle.base.specs.declared.outcomes.Outcome.{Outcome}
use Rattle.trace_model.specs.declared.events.Event.{Event}
use Rattle.trace_model.specs.declared.events.Log.{Log}
use Rattle.trace_model.specs.Balance.{IsBalanced}
use Rattle.trace_reduce.specs.declared.reducer.Reducer.{Reducer}
use Rattle.trace_reduce.specs.Reducer.{HasTaken}
use Rattle.trace_model.specs.declared.tapes.Tape.{Tape}
use Rattle.trace_model.specs.Weight.{tape_weight}
use Rattle.record_replay_spec.specs.LogTapes.{IsLogTape}
use Rattle.wasm_syntax.specs.declared.limits.TheConstants.{MAX_TAPE_WEIGHT}
use Rattle.r3_faults.specs.declared.faults.Fault.{Fault}
use Rattle.r3_faults.specs.declared.faults.Fault.TheVariants.{Memory, TapeLimit}

-- the reducer has taken the events of a balanced log with this outcome, of a module that imports this number of
-- functions
abbrev pub HasTakenBalanced : Reducer → (imports : ℕ) → Outcome → Type 0
HasTakenBalanced reducer imports outcome =
    (taken : List Event) × HasTaken reducer taken
    × IsBalanced (record { imports = imports; events = taken; outcome = outcome })

-- the log's tape is heavier than the tape of a replay module may be
pub record IsHeavyLog (log : Log) (fault : Fault) : Type 0 where
  pub tape : Tape
  pub is_tape : IsLogTape log tape
  pub heavy : MAX_TAPE_WEIGHT < tape_weight tape
  pub named : fault ≡ TapeLimit (min (tape_weight tape) (2 ^ 64 - 1))

-- the log's tape, or why it is refused
abbrev pub IsLightTape : Log → Result Tape Fault → Type 0
IsLightTape log (Ok tape) = IsLogTape log tape × (tape_weight tape ≤ MAX_TAPE_WEIGHT)
IsLightTape log (Err fault) = (fault ≡ Memory) ⊎ IsHeavyLog log fault
