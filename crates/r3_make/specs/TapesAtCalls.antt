-- What a recorded run gives for a top-level call: the tape of its log and what was frozen before the call, or why not.
use Rattle.std.specs.Prelude.{◌≡◌, ℕ, ◌<◌, ◌≤◌, ◌⊎◌, Some, Result, Ok, Err}
use Rattle.trace_model.specs.declared.events.Log.{Log}
use Rattle.trace_model.specs.declared.tapes.Tape.{Tape}
use Rattle.recorder.specs.FrozenViews.{FrozenView}
use Rattle.r3_faults.specs.declared.faults.Fault.{Fault}
use Rattle.r3_faults.specs.declared.faults.Fault.TheVariants.{NoCall}
use Rattle.r3_make.specs.Answers.{IsLightTape}
use Rattle.r3_make.specs.declared.frozen_runs.FrozenRun.{FrozenRun}

-- the number of top-level calls is at most the number of the call, and is reported; or the tape of the log is too
-- heavy, or memory is out
abbrev pub IsNotTaken : FrozenRun → Log → (number : ℕ) → Fault → Type 0
IsNotTaken run log number fault =
    ((run.calls ≤ number) × (fault ≡ NoCall number run.calls))
    ⊎ ((number < run.calls) × IsLightTape log (Err fault))

-- the tape of the log, and what was frozen, if there are more top-level calls than the number of the call; or why not
abbrev pub IsTapeAt : FrozenRun → Log → (number : ℕ) → Result (Tape × FrozenView) Fault → Type 0
IsTapeAt run log number (Ok found) =
    (number < run.calls) × IsLightTape log (Ok found.0) × (run.frozen ≡ Some found.1)
IsTapeAt run log number (Err fault) = IsNotTaken run log number fault
