-- The tape that the run of a module under a script needs.
use Rattle.std.specs.Prelude.{◌≡◌, ℕ, ◌<◌, ◌≤◌, ◌-◌, ◌^◌, min}
use Rattle.wasm_syntax.specs.declared.limits.TheConstants.{MAX_TAPE_WEIGHT}
use Rattle.wasm_syntax.specs.declared.modules.Module.{Module}
use Rattle.host_script.specs.declared.scripts.Script.{Script}
use Rattle.host_script.specs.declared.scripts.Supply.{Supply}
use Rattle.base.specs.declared.outcomes.Outcome.{Outcome}
use Rattle.trace_model.specs.declared.tapes.Tape.{Tape}
use Rattle.trace_model.specs.Weight.{tape_weight}
use Rattle.history_spec.specs.Run.{Run}
use Rattle.history_spec.specs.Store.{Store}
use Rattle.tape_laws.specs.NeededTape.{IsOneNeededTape}
use Rattle.accepted_runs.specs.Runs.{HasOutcome}
use Rattle.accepted_runs.specs.Linked.{IsLinked}
use Rattle.r3_faults.specs.declared.faults.Fault.{Fault}
use Rattle.r3_faults.specs.declared.faults.Fault.TheVariants.{TapeLimit}

-- the module links with the script, and begins with this store; its run has an outcome within the turns, and
-- this is the one tape that it needs
pub record NeedsTape (m : Module) (script : Script) (turns : ℕ) (supply : Supply) (store : Store) (tape : Tape)
    : Type 0 where
  pub linked : IsLinked m script supply store
  pub run : Run
  pub outcome : Outcome
  pub ends : HasOutcome m script turns run outcome
  pub is_one : IsOneNeededTape m script store run.history outcome tape.segments

-- the run needs a tape that is no heavier than the tape of a replay module may be
pub record NeedsLightTape (m : Module) (script : Script) (turns : ℕ) : Type 0 where
  pub supply : Supply
  pub store : Store
  pub tape : Tape
  pub needed : NeedsTape m script turns supply store tape
  pub light : tape_weight tape ≤ MAX_TAPE_WEIGHT

-- the run needs a tape that is too heavy; a weight of more than 64 bits is reported as the greatest of 64
pub record NeedsHeavyTape (m : Module) (script : Script) (turns : ℕ) (fault : Fault) : Type 0 where
  pub supply : Supply
  pub store : Store
  pub tape : Tape
  pub needed : NeedsTape m script turns supply store tape
  pub heavy : MAX_TAPE_WEIGHT < tape_weight tape
  pub named : fault ≡ TapeLimit (min (tape_weight tape) (2 ^ 64 - 1))
