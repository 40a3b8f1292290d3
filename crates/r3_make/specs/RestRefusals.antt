-- Why `from` prints nothing, by the first cause that applies, and when it prints a replay module.
use Rattle.std.specs.Prelude.{◌≡◌, ℕ, ◌<◌, ◌≤◌, ◌-◌, ◌^◌, List, min}
use Rattle.wasm_syntax.specs.declared.modules.Module.{Module}
use Rattle.host_script.specs.declared.scripts.Script.{Script}
use Rattle.base.specs.declared.outcomes.Outcome.{Outcome}
use Rattle.history_spec.specs.Run.{Run}
use Rattle.rest_spec.specs.Rests.{calls_in}
use Rattle.accepted_runs.specs.Unlinked.{IsUnlinkedFor}
use Rattle.accepted_runs.specs.Runs.{HasNoOutcome, HasOutcome}
use Rattle.r3_faults.specs.declared.faults.Fault.{Fault}
use Rattle.r3_faults.specs.declared.faults.Fault.TheVariants.{NoCall}
use Rattle.r3_inputs.specs.Inputs.{AreInputs, AreRefused}
use Rattle.r3_make.specs.Tapes.{NeedsHeavyTape, NeedsLightTape}

-- the run has an outcome within the turns, and no top-level call of this number; a number of calls of more than 64
-- bits is reported as the greatest of 64
pub record HasFewCalls (m : Module) (script : Script) (turns number : ℕ) (fault : Fault) : Type 0 where
  pub run : Run
  pub outcome : Outcome
  pub ends : HasOutcome m script turns run outcome
  pub few : calls_in run.history 0 ≤ number
  pub named : fault ≡ NoCall number (min (calls_in run.history 0) (2 ^ 64 - 1))

-- the run has a top-level call of this number, and needs a tape that is too heavy
pub record HasHeavyTape (m : Module) (script : Script) (turns number : ℕ) (fault : Fault) : Type 0 where
  pub heavy : NeedsHeavyTape m script turns fault
  pub call : number < calls_in heavy.needed.run.history 0

-- the run has a top-level call of this number, and needs a tape that is light enough
pub record HasCall (m : Module) (script : Script) (turns number : ℕ) : Type 0 where
  pub light : NeedsLightTape m script turns
  pub call : number < calls_in light.needed.run.history 0

-- why a run has no replay module from a top-level call on: the module does not link, its run has no outcome within the
-- turns, it has too few calls, or it needs a tape that is too heavy
pub data HasNoRest (m : Module) (script : Script) (turns number : ℕ) (fault : Fault) : Type 0 where
  OfLink : (unlinked : IsUnlinkedFor m script fault) → HasNoRest m script turns number fault
  OfRun : (none : HasNoOutcome m script turns fault) → HasNoRest m script turns number fault
  OfCalls : (few : HasFewCalls m script turns number fault) → HasNoRest m script turns number fault
  OfWeight : (heavy : HasHeavyTape m script turns number fault) → HasNoRest m script turns number fault

-- ---- the bytes of a module and of a script

-- the bytes are a module and a script whose run has an outcome within the turns and a top-level call of this number,
-- and needs a tape that is light enough
pub record HaveRest (module_bytes script_bytes : List ℕ) (turns number : ℕ) : Type 0 where
  pub m : Module
  pub script : Script
  pub inputs : AreInputs module_bytes script_bytes m script
  pub call : HasCall m script turns number

-- the module or the script is refused, or the run has no replay module from this call on
pub data IsRestRefusal (module_bytes script_bytes : List ℕ) (turns number : ℕ) (fault : Fault) : Type 0 where
  OfInputs : (refused : AreRefused module_bytes script_bytes fault)
      → IsRestRefusal module_bytes script_bytes turns number fault
  OfModule : (m : Module) (script : Script) (inputs : AreInputs module_bytes script_bytes m script)
      (none : HasNoRest m script turns number fault) → IsRestRefusal module_bytes script_bytes turns number fault
