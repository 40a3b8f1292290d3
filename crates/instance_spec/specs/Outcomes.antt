-- The outcome of a run within a budget of turns, or why there is none, for any start and any run from it: the run of a
-- program, or that of a world.
use Rattle.std.specs.Prelude.{◌≡◌, ◌↔◌, ℕ, List, Result, Ok, Err}
use Rattle.base.specs.declared.outcomes.Outcome.{Outcome}
use Rattle.wasm_syntax.specs.declared.modules.Module.{Module}
use Rattle.host_script.specs.declared.scripts.Script.{Script}
use Rattle.host_script.specs.declared.scripts.LinkFault.{LinkFault}
use Rattle.history_spec.specs.declared.entries.FaultKind.{FaultKind}
use Rattle.history_spec.specs.Step.{Program, StepResult, Finished, Faulted}
use Rattle.history_spec.specs.Run.{Meter, Run, program_of, run_from, run_start}
use Rattle.history_spec.specs.Budget.{IsOverWithin, IsSpent}
use Rattle.instance_spec.specs.declared.decls.Decl.{Decl}
use Rattle.instance_spec.specs.Instances.{World, run_in}
use Rattle.instance_spec.specs.Renamed.{Realises}
use Rattle.instance_spec.specs.ForeignRuns.{foreign_start, foreign_world}
use Rattle.instance_spec.specs.Widened.{widened}
use Rattle.instance_spec.specs.Laws.{renamed_start}

-- the run starts, and is over within the turns by this outcome
pub record HasOutcomeIn (begun : Result StepResult LinkFault) (runs : StepResult → ℕ → Run) (turns : ℕ) (run : Run)
    (outcome : Outcome) : Type 0 where
  pub initial : StepResult
  pub starts : begun ≡ Ok initial
  pub within : IsOverWithin (runs initial) turns run
  pub ends : run.at ≡ Finished outcome

-- the run starts, and is over within the turns by an action that the host cannot do: the turn that this is, and why
pub record IsFaultyIn (begun : Result StepResult LinkFault) (runs : StepResult → ℕ → Run) (turns turn : ℕ)
    (kind : FaultKind) : Type 0 where
  pub initial : StepResult
  pub starts : begun ≡ Ok initial
  pub run : Run
  pub within : IsOverWithin (runs initial) turns run
  pub kind_is : run.at ≡ Faulted kind
  pub turn_is : run.turns ≡ turn

-- the run starts, and the turns are spent
pub record IsSpentIn (begun : Result StepResult LinkFault) (runs : StepResult → ℕ → Run) (meter : Meter) (turns : ℕ)
    : Type 0 where
  pub initial : StepResult
  pub starts : begun ≡ Ok initial
  pub spent : IsSpent (runs initial) meter turns

-- ---- laws

-- a run with one start in a world, and a run of a program with another start, have the same outcomes, faults and spent
-- turns, or do not link for the same fault
pub record DoOutcomesFollow (w : World) (p : Program) (meter : Meter) (begun other : Result StepResult LinkFault)
    : Type 0 where
  pub outcomes : (turns : ℕ) (run : Run) (outcome : Outcome)
      → HasOutcomeIn begun (run_in w meter) turns run outcome ↔ HasOutcomeIn other (run_from p meter) turns run outcome
  pub faults : (turns turn : ℕ) (kind : FaultKind)
      → IsFaultyIn begun (run_in w meter) turns turn kind ↔ IsFaultyIn other (run_from p meter) turns turn kind
  pub spent : (turns : ℕ)
      → IsSpentIn begun (run_in w meter) meter turns ↔ IsSpentIn other (run_from p meter) meter turns
  pub unlinked : (fault : LinkFault) → (begun ≡ Err fault) ↔ (other ≡ Err fault)

-- a program that realises a world has the outcomes of the world, from each start with its indices resolved beforehand
abbrev pub OutcomesFollow : Type 0
OutcomesFollow =
    (w : World) (p : Program) (meter : Meter) (begun : Result StepResult LinkFault) → Realises w p
    → DoOutcomesFollow w p meter begun (renamed_start w begun)

-- a widened module has the outcomes of the module as it is with foreign functions
abbrev pub WidenedOutcomesFollow : Type 0
WidenedOutcomesFollow =
    (m : Module) (decls : List Decl) (script : Script) (meter : Meter)
    → DoOutcomesFollow (foreign_world m decls script) (program_of (widened m decls) script) meter
    (foreign_start m decls script) (run_start (widened m decls) script)
