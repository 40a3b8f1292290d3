-- The first bytes that are not the known ones, and the event that reports them.
use Rattle.std.specs.Prelude.{ℕ, ◌+◌, ◌-◌, List, [], ◌∷◌, take, drop}
use Rattle.trace_model.specs.declared.events.Event.{Event}
use Rattle.trace_model.specs.declared.events.Event.TheVariants.{Bytes}
use Rattle.trace_model.specs.Sink.{TookAlso}
use Rattle.shadow_memory.specs.Shadow.{Shadow, HasTaken}
use Rattle.shadow_memory.specs.Runs.{AreKnown, IsFirstDifference}
use Rattle.shadow_memory.specs.declared.runs.Difference.{Difference}

-- the event of a run of bytes that differ
abbrev pub run_event : (address : ℕ) → List ℕ → Difference → Event
run_event address bytes run =
    Bytes (address + run.start) (take (run.«end» - run.start) (drop run.start bytes))

-- a run of bytes is found and reported, and the bytes up to its end are taken; or all bytes are known
pub record FindsRun {S : Type 0} (has_taken : S → S → List Event → Type 0) (before : Shadow) (sink : S) (address : ℕ)
    (bytes : List ℕ) (run : Difference) (after : Shadow) (sink' : S) : Type 0 where
  pub first : IsFirstDifference before.bytes address bytes run
  pub taken : HasTaken before address (take run.«end» bytes) after
  pub reported : TookAlso has_taken sink sink' (run_event address bytes run ∷ [])

pub record FindsNothing {S : Type 0} (has_taken : S → S → List Event → Type 0) (before : Shadow) (sink : S)
    (address : ℕ) (bytes : List ℕ) (after : Shadow) (sink' : S) : Type 0 where
  pub known : AreKnown before.bytes address bytes
  pub taken : HasTaken before address bytes after
  pub reported : TookAlso has_taken sink sink' []
