-- The run of a module under a script within a budget of turns: its outcome, or the fault that it ends with.
use Rattle.std.specs.Prelude.{◌≡◌, ℕ, Ok}
use Rattle.wasm_syntax.specs.declared.modules.Module.{Module}
use Rattle.host_script.specs.declared.scripts.Script.{Script}
use Rattle.base.specs.declared.outcomes.Outcome.{Outcome}
use Rattle.history_spec.specs.declared.entries.FaultKind.{FaultKind}
use Rattle.history_spec.specs.Step.{StepResult, Finished}
use Rattle.history_spec.specs.Run.{Run, all_one, program_of, run_start, run_from}
use Rattle.history_spec.specs.Budget.{IsOverWithin, IsSpent}
use Rattle.host_play.specs.Results.{IsFault}
use Rattle.host_play.specs.declared.results.PlayFault.{PlayFault}
use Rattle.host_play.specs.declared.results.PlayFault.TheVariants as refusal
use Rattle.r3_faults.specs.declared.faults.Fault.{Fault}
use Rattle.r3_faults.specs.declared.faults.Fault.TheVariants.{HookOrder, Memory, Script as ScriptFault, Spent}

-- the module links, and the run is over within the turns by this outcome
pub record HasOutcome (m : Module) (script : Script) (turns : ℕ) (run : Run) (outcome : Outcome) : Type 0 where
  pub initial : StepResult
  pub starts : run_start m script ≡ Ok initial
  pub within : IsOverWithin (run_from (program_of m script) all_one initial) turns run
  pub ends : run.at ≡ Finished outcome

-- the run is over within the turns, by an action that the host cannot do: the turn that this is, and why
pub record IsFaultyFor (m : Module) (script : Script) (turns : ℕ) (fault : Fault) : Type 0 where
  pub turn : ℕ
  pub kind : FaultKind
  pub named : fault ≡ ScriptFault turn kind
  pub initial : StepResult
  pub starts : run_start m script ≡ Ok initial
  pub faulty : IsFault (program_of m script) initial turns turn kind

-- the turns are spent
pub record IsSpentFor (m : Module) (script : Script) (turns : ℕ) (fault : Fault) : Type 0 where
  pub named : fault ≡ Spent turns
  pub initial : StepResult
  pub starts : run_start m script ≡ Ok initial
  pub spent : IsSpent (run_from (program_of m script) all_one initial) all_one turns

-- why a module that links has no outcome
pub data HasNoOutcome (m : Module) (script : Script) (turns : ℕ) (fault : Fault) : Type 0 where
  OfScript : (faulty : IsFaultyFor m script turns fault) → HasNoOutcome m script turns fault
  OfTurns : (spent : IsSpentFor m script turns fault) → HasNoOutcome m script turns fault

-- a call's fault for a run that has no outcome, or no log
abbrev pub run_fault : (turns : ℕ) → PlayFault → Fault
run_fault turns (refusal.Fault turn kind) = ScriptFault turn kind
run_fault turns refusal.Spent = Spent turns
run_fault turns (refusal.Hook number) = HookOrder number
run_fault turns refusal.Memory = Memory
