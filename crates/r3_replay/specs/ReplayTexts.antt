-- The lines that the run of a replay module shows of its original within a budget of turns, or why there are none.
use Rattle.std.specs.Prelude.{◌≡◌, ◌≢◌, ℕ, List}
use Rattle.wasm_syntax.specs.declared.modules.Module.{Module}
use Rattle.host_play.specs.declared.results.PrintedRun.{PrintedRun}
use Rattle.replay_run.specs.declared.results.ReplayFault.{ReplayFault}
use Rattle.replay_run.specs.declared.results.ReplayFault.TheVariants as replay
use Rattle.replay_run.specs.Results.{RefusesReplay, PrintsReplay}
use Rattle.r3_faults.specs.declared.faults.Fault.{Fault}
use Rattle.r3_faults.specs.declared.faults.Fault.TheVariants.{NoLayout, NoImports, NoEntry, Segment, Spent, Memory}
use Rattle.r3_inputs.specs.declared.module_files.ModuleFile.TheVariants.{Replay}
use Rattle.r3_inputs.specs.Inputs.{IsModuleIn, IsRefusedIn}

-- ---- the run of a replay module

-- a call's fault for a run that shows nothing
abbrev pub replay_fault : (turns : ℕ) → ReplayFault → Fault
replay_fault turns replay.NoLayout = NoLayout
replay_fault turns replay.Imports = NoImports
replay_fault turns replay.NoEntry = NoEntry
replay_fault turns (replay.Link segment) = Segment segment
replay_fault turns replay.Spent = Spent turns
replay_fault turns replay.Memory = Memory

-- the run has an outcome within the turns, and these are the lines of what it shows
pub record HasReplayText (m : Module) (turns : ℕ) (text : List ℕ) : Type 0 where
  pub printed : PrintedRun
  pub prints : PrintsReplay m turns printed
  pub lines : text ≡ printed.text

-- why there are no lines: the module does not have the form of a replay module, a segment does not fit, or the
-- turns are spent
pub record HasNoReplayText (m : Module) (turns : ℕ) (fault : Fault) : Type 0 where
  pub found : ReplayFault
  pub named : fault ≡ replay_fault turns found
  pub differs : found ≢ replay.Memory
  pub refused : RefusesReplay m turns found

-- ---- the bytes of a replay module

-- the bytes are an accepted module whose run shows these lines
pub record IsReplayText (bytes : List ℕ) (turns : ℕ) (text : List ℕ) : Type 0 where
  pub m : Module
  pub is_module : IsModuleIn Replay bytes m
  pub shown : HasReplayText m turns text

-- the bytes are refused, or the run of the module shows nothing
pub data IsReplayRefusal (bytes : List ℕ) (turns : ℕ) (fault : Fault) : Type 0 where
  OfModule : (refused : IsRefusedIn Replay bytes fault) → IsReplayRefusal bytes turns fault
  OfRun : (m : Module) (is_module : IsModuleIn Replay bytes m) (none : HasNoReplayText m turns fault)
      → IsReplayRefusal bytes turns fault
