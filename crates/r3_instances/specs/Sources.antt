-- What a command reads from its files beside a script, and the run that this has under the script; or why the files or
-- the script are refused, or why there is no such run.
use Rattle.std.specs.Prelude.{◌≡◌, ℕ, List, Ok}
use Rattle.wasm_syntax.specs.declared.modules.Module.{Module}
use Rattle.host_script.specs.declared.scripts.Script.{Script}
use Rattle.script_text.specs.Texts.{script_of_text}
use Rattle.r3_faults.specs.declared.faults.Fault.{Fault}
use Rattle.r3_inputs.specs.Inputs.{IsRefusedScript}
use Rattle.r3_make.specs.Tapes.{NeedsLightTape}
use Rattle.r3_instances.specs.WorldRuns.{WorldRun, IsWorldHistory, IsWorldUnprinted}
use Rattle.r3_instances.specs.WorldReplays.{IsWorldUnmade}

-- what files are read as, why they are refused, the one module that is recorded for what is read, and the run of what
-- is read under a script
pub record Source (X : Type 0) : Type 1 where
  pub IsRead : X → Type 0
  pub IsUnread : Fault → Type 0
  pub recorded : X → Module
  pub run : X → Script → WorldRun

module _ {X : Type 0} (source : Source X) (script_bytes : List ℕ) where
  -- the files are read as this, and the bytes are a script for the module that is recorded
  pub record AreReadWithScript (x : X) (script : Script) : Type 0 where
    pub read : source.IsRead x
    pub is_script : script_of_text (source.recorded x) script_bytes ≡ Ok script

  -- the files are refused, or else the script
  pub data AreRefusedWithScript (fault : Fault) : Type 0 where
    ByFiles : (unread : source.IsUnread fault) → AreRefusedWithScript fault
    ByScript : (x : X) (read : source.IsRead x) (refused : IsRefusedScript (source.recorded x) script_bytes fault)
        → AreRefusedWithScript fault

  -- the files and the script are read, and have such a replay module
  pub record HasReplay (IsReplay : X → Script → Type 0) : Type 0 where
    pub x : X
    pub script : Script
    pub inputs : AreReadWithScript x script
    pub replay : IsReplay x script

  module _ (turns : ℕ) where
    -- the files and the script are read, and their run has this history
    pub record HasHistory (text : List ℕ) : Type 0 where
      pub x : X
      pub script : Script
      pub inputs : AreReadWithScript x script
      pub history : IsWorldHistory (source.run x script) turns text

    -- the files or the script are refused, or the run has no history
    pub data HasNoHistory (fault : Fault) : Type 0 where
      OfInputs : (refused : AreRefusedWithScript fault) → HasNoHistory fault
      OfRun : (x : X) (script : Script) (inputs : AreReadWithScript x script)
          (unprinted : IsWorldUnprinted (source.run x script) turns fault) → HasNoHistory fault

    -- the files and the script are read; the run of the recorded module has an outcome within the turns, and needs a
    -- tape that is light enough
    pub record AreReplayable : Type 0 where
      pub x : X
      pub script : Script
      pub inputs : AreReadWithScript x script
      pub replayable : NeedsLightTape (source.recorded x) script turns

    -- the files or the script are refused, or the run has no replay module
    pub data HasNoReplay (fault : Fault) : Type 0 where
      OfBytes : (refused : AreRefusedWithScript fault) → HasNoReplay fault
      OfModule : (x : X) (script : Script) (inputs : AreReadWithScript x script)
          (unmade : IsWorldUnmade (source.recorded x) script (source.run x script) turns fault) → HasNoReplay fault
