-- The history of a module's run under a script within a budget of turns, or why there is none.
use Rattle.std.specs.Prelude.{◌≡◌, ℕ, List}
use Rattle.wasm_syntax.specs.declared.modules.Module.{Module}
use Rattle.host_script.specs.declared.scripts.Script.{Script}
use Rattle.base.specs.declared.outcomes.Outcome.{Outcome}
use Rattle.history_spec.specs.Run.{Run}
use Rattle.history_spec.specs.Line.{history_text}
use Rattle.accepted_runs.specs.Unlinked.{IsUnlinkedFor}
use Rattle.accepted_runs.specs.Runs.{HasOutcome, HasNoOutcome}
use Rattle.r3_faults.specs.declared.faults.Fault.{Fault}
use Rattle.r3_inputs.specs.Inputs.{AreInputs, AreRefused}

-- ---- the run of a module under a script

-- the run ends with an outcome within the turns, and these are its lines
pub record IsHistoryOf (m : Module) (script : Script) (turns : ℕ) (text : List ℕ) : Type 0 where
  pub run : Run
  pub outcome : Outcome
  pub ends : HasOutcome m script turns run outcome
  pub lines : text ≡ history_text run.history outcome

-- why a run has no history: the module does not link, or its run has no outcome
pub data IsUnprinted (m : Module) (script : Script) (turns : ℕ) (fault : Fault) : Type 0 where
  OfLink : (unlinked : IsUnlinkedFor m script fault) → IsUnprinted m script turns fault
  OfOutcome : (none : HasNoOutcome m script turns fault) → IsUnprinted m script turns fault

-- ---- the bytes of a module and of a script

-- the bytes are a module and a script whose run has this history
pub record IsHistory (module_bytes script_bytes : List ℕ) (turns : ℕ) (text : List ℕ) : Type 0 where
  pub m : Module
  pub script : Script
  pub inputs : AreInputs module_bytes script_bytes m script
  pub history : IsHistoryOf m script turns text

-- the module or the script is refused, or the run has no history
pub data IsHistoryRefusal (module_bytes script_bytes : List ℕ) (turns : ℕ) (fault : Fault) : Type 0 where
  OfInputs : (refused : AreRefused module_bytes script_bytes fault)
      → IsHistoryRefusal module_bytes script_bytes turns fault
  OfRun : (m : Module) (script : Script) (inputs : AreInputs module_bytes script_bytes m script)
      (unprinted : IsUnprinted m script turns fault) → IsHistoryRefusal module_bytes script_bytes turns fault
