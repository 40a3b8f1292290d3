-- The run within a budget of turns: a step is made only if the turns that it takes are left.
use Rattle.std.specs.Prelude.{◌≡◌, ℕ, ◌<◌, ◌≤◌}
use Rattle.history_spec.specs.Configuration.{Config}
use Rattle.history_spec.specs.Step.{Program, Progress, Running, Finished, Faulted, Stuck, StepResult}
use Rattle.history_spec.specs.Run.{Meter, Run, all_one, run_from, weight}

-- a run is over: by an outcome, by a fault of the script, or because no rule of the standard holds
abbrev pub IsOver : Progress → Type 0
IsOver (Running config) = ⊥
IsOver (Finished outcome) = Unit {0}
IsOver (Faulted kind) = Unit {0}
IsOver Stuck = Unit {0}

-- the result of a run within a budget: it is over, with its history and the turns that it took (the turn of an
-- action that cannot be done among them); or its turns are spent
pub data RunResult : Type 0 where
  Over : (run : Run) → RunResult
  Spent : RunResult

-- after some steps, for which the turns suffice, the run is over
pub record IsOverWithin (steps : ℕ → Run) (budget : ℕ) (run : Run) : Type 0 where
  pub count : ℕ
  pub is_run : steps count ≡ run
  pub over : IsOver run.at
  pub in_budget : run.turns ≤ budget

-- after some steps all turns are used, and the next step takes one
pub record IsSpent (steps : ℕ → Run) (meter : Meter) (budget : ℕ) : Type 0 where
  pub count : ℕ
  pub config : Config
  pub standing : (steps count).at ≡ Running config
  pub used : (steps count).turns ≡ budget
  pub wants : 0 < weight meter config

-- a run within a budget has this result
abbrev pub IsResult : (ℕ → Run) → Meter → ℕ → RunResult → Type 0
IsResult steps meter budget (Over run) = IsOverWithin steps budget run
IsResult steps meter budget Spent = IsSpent steps meter budget

-- a run has at most one result
abbrev pub HasOneResultAtMost : (ℕ → Run) → Meter → ℕ → Type 0
HasOneResultAtMost steps meter budget =
    (a b : RunResult) → IsResult steps meter budget a → IsResult steps meter budget b → a ≡ b

-- a run has some result
abbrev pub HasSomeResult : (ℕ → Run) → Meter → ℕ → Type 0
HasSomeResult steps meter budget = (a : RunResult) × IsResult steps meter budget a

-- ---- laws

-- under every meter a run has one result at most within a budget
abbrev pub RunsHaveOneResultAtMost : Type 0
RunsHaveOneResultAtMost =
    (program : Program) (meter : Meter) (initial : StepResult) (budget : ℕ)
    → HasOneResultAtMost (run_from program meter initial) meter budget

-- if each step is a turn, a run has some result within each budget
abbrev pub RunsHaveSomeResult : Type 0
RunsHaveSomeResult =
    (program : Program) (initial : StepResult) (budget : ℕ)
    → HasSomeResult (run_from program all_one initial) all_one budget
