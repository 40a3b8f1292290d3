-- Why no replay module is made, and when one is made.
use Rattle.std.specs.Prelude.{ℕ, List}
use Rattle.wasm_syntax.specs.declared.modules.Module.{Module}
use Rattle.host_script.specs.declared.scripts.Script.{Script}
use Rattle.accepted_runs.specs.Unlinked.{IsUnlinkedFor}
use Rattle.accepted_runs.specs.Runs.{HasNoOutcome}
use Rattle.r3_faults.specs.declared.faults.Fault.{Fault}
use Rattle.r3_inputs.specs.Inputs.{AreInputs, AreRefused}
use Rattle.r3_make.specs.Tapes.{NeedsHeavyTape, NeedsLightTape}

-- why the run of a module under a script has no replay module: the module does not link, its run has no outcome
-- within the turns, or it needs a tape that is too heavy
pub data IsUnmade (m : Module) (script : Script) (turns : ℕ) (fault : Fault) : Type 0 where
  OfLink : (unlinked : IsUnlinkedFor m script fault) → IsUnmade m script turns fault
  OfRun : (none : HasNoOutcome m script turns fault) → IsUnmade m script turns fault
  OfWeight : (heavy : NeedsHeavyTape m script turns fault) → IsUnmade m script turns fault

-- ---- the bytes of a module and of a script

-- the bytes are a module and a script whose run has an outcome within the turns and needs a tape that is light
-- enough
pub record AreReplayable (module_bytes script_bytes : List ℕ) (turns : ℕ) : Type 0 where
  pub m : Module
  pub script : Script
  pub inputs : AreInputs module_bytes script_bytes m script
  pub replayable : NeedsLightTape m script turns

-- the module or the script is refused, or the run has no replay module
pub data IsMakeRefusal (module_bytes script_bytes : List ℕ) (turns : ℕ) (fault : Fault) : Type 0 where
  OfInputs : (refused : AreRefused module_bytes script_bytes fault)
      → IsMakeRefusal module_bytes script_bytes turns fault
  OfModule : (m : Module) (script : Script) (inputs : AreInputs module_bytes script_bytes m script)
      (unmade : IsUnmade m script turns fault) → IsMakeRefusal module_bytes script_bytes turns fault
