-- A run that is defined by a start and a world, within a budget of turns: its outcome, its history, or the fault that
-- it ends with, as the fault of a call.
use Rattle.std.specs.Prelude.{◌≡◌, ◌≢◌, ℕ, List, Result, Err}
use Rattle.host_script.specs.declared.scripts.LinkFault.{LinkFault}
use Rattle.host_script.specs.declared.scripts.LinkFault.TheVariants as link
use Rattle.base.specs.declared.outcomes.Outcome.{Outcome}
use Rattle.history_spec.specs.declared.entries.FaultKind.{FaultKind}
use Rattle.history_spec.specs.Line.{history_text}
use Rattle.history_spec.specs.Run.{Run, all_one}
use Rattle.history_spec.specs.Step.{StepResult}
use Rattle.instance_spec.specs.Instances.{World, run_in}
use Rattle.instance_spec.specs.Outcomes.{HasOutcomeIn, IsFaultyIn, IsSpentIn}
use Rattle.accepted_runs.specs.Unlinked.{link_fault}
use Rattle.r3_faults.specs.declared.faults.Fault.{Fault}
use Rattle.r3_faults.specs.declared.faults.Fault.TheVariants.{Script as ScriptFault, Spent}

-- how a run begins, or why its modules do not link with the script, and the world in which it goes on
pub record WorldRun : Type 0 where
  pub begun : Result StepResult LinkFault
  pub world : World

module _ (r : WorldRun) where
  -- the modules do not link with the script
  pub record IsWorldUnlinked (fault : Fault) : Type 0 where
    pub found : LinkFault
    pub named : fault ≡ link_fault found
    pub differs : found ≢ link.Memory
    pub unopened : r.begun ≡ Err found

  -- the run begins, and is over within the turns by this outcome
  abbrev pub HasWorldOutcome : (turns : ℕ) → Run → Outcome → Type 0
  HasWorldOutcome turns run outcome = HasOutcomeIn r.begun (run_in r.world all_one) turns run outcome

  -- the run is over within the turns by an action that the host cannot do: the turn that this is, and why
  pub record IsWorldFaulty (turns : ℕ) (fault : Fault) : Type 0 where
    pub turn : ℕ
    pub kind : FaultKind
    pub named : fault ≡ ScriptFault turn kind
    pub faulty : IsFaultyIn r.begun (run_in r.world all_one) turns turn kind

  -- the turns are spent
  pub record IsWorldSpent (turns : ℕ) (fault : Fault) : Type 0 where
    pub named : fault ≡ Spent turns
    pub spent : IsSpentIn r.begun (run_in r.world all_one) all_one turns

  -- why a run that begins has no outcome
  pub data HasNoWorldOutcome (turns : ℕ) (fault : Fault) : Type 0 where
    OfScript : (faulty : IsWorldFaulty turns fault) → HasNoWorldOutcome turns fault
    OfTurns : (spent : IsWorldSpent turns fault) → HasNoWorldOutcome turns fault

  -- ---- histories

  -- the run ends with an outcome within the turns, and these are its lines
  pub record IsWorldHistory (turns : ℕ) (text : List ℕ) : Type 0 where
    pub run : Run
    pub outcome : Outcome
    pub ends : HasWorldOutcome turns run outcome
    pub lines : text ≡ history_text run.history outcome

  -- why a run has no history: the modules do not link with the script, or the run has no outcome
  pub data IsWorldUnprinted (turns : ℕ) (fault : Fault) : Type 0 where
    OfLink : (unlinked : IsWorldUnlinked fault) → IsWorldUnprinted turns fault
    OfOutcome : (none : HasNoWorldOutcome turns fault) → IsWorldUnprinted turns fault
