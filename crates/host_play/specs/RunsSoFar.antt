-- How far a run within a budget of turns has come.
use Rattle.std.specs.Prelude.{◌≡◌, ℕ, ◌+◌, ◌-◌, List, ◌++◌, None, Result, Ok, Err}
use Rattle.wasm_syntax.specs.declared.modules.Module.{Module}
use Rattle.host_script.specs.declared.scripts.Script.{Script}
use Rattle.history_spec.specs.declared.entries.Entry.{Entry}
use Rattle.history_spec.specs.Step.{Program, StepResult}
use Rattle.history_spec.specs.Run.{program_of, run_from}
use Rattle.wasm_flat.specs.Meters.{Weighing, meter_of}
use Rattle.host_play.specs.declared.host_steps.PlayStep.{PlayStep}
use Rattle.host_play.specs.declared.play_state.Stand.{Stand}
use Rattle.host_play.specs.declared.play_state.Stand.TheVariants as at
use Rattle.host_play.specs.declared.play_state.PlayState.{PlayState}
use Rattle.host_play.specs.declared.results.PlayFault.{PlayFault}
use Rattle.host_play.specs.declared.results.RunEnd.{RunEnd}
use Rattle.host_play.specs.Results.{Refuses}
use Rattle.host_play.specs.Stands.{StandsAt}
use Rattle.host_play.specs.PrintedLines.{HasPrinted, PrintedLines}

-- a number of steps is made, with this history, and the run goes on from here with what is left of the turns, which
-- are taken by a meter of this weighing
pub record ComesTo (m : Module) (script : Script) (weighing : Weighing) (initial : StepResult) (budget : ℕ)
    (history : List Entry) (stand : Stand) (playing : PlayState) (left : ℕ) : Type 0 where
  pub steps : ℕ
  pub pending : StepResult
  pub used : ℕ
  pub run : run_from (program_of m script) (meter_of m weighing) initial steps
      ≡ record { history = history ++ pending.entries; turns = used; at = pending.next }
  pub spent : used + left ≡ budget
  pub standing : StandsAt m script stand playing pending

-- the run has gone on from this history, each step by a turn, or there is no outcome
abbrev pub GoesBy : Module → Script → (initial : StepResult) → (budget : ℕ) → (history : List Entry)
    → Result PlayStep PlayFault → PlayState → (left : ℕ) → Type 0
GoesBy m script initial budget history (Ok step) playing left =
    ComesTo m script None initial budget (history ++ step.entries) step.stand playing left
GoesBy m script initial budget history (Err fault) playing left = Refuses (program_of m script) initial budget fault

-- each run that has come to this point goes on in this way
abbrev pub GoesFrom : Script → (budget : ℕ) → Stand → PlayState → (left : ℕ)
    → Result PlayStep PlayFault → PlayState → (left : ℕ) → Type 0
GoesFrom script budget stand playing left result after after_left =
    (m : Module) (initial : StepResult) (history : List Entry)
    → ComesTo m script None initial budget history stand playing left
    → GoesBy m script initial budget history result after after_left

-- ---- what is kept of the history

-- the lines of the history so far are printed
pub record PrintsSoFar (m : Module) (script : Script) (initial : StepResult) (budget : ℕ) (printed : PrintedLines)
    (stand : Stand) (playing : PlayState) (left : ℕ) : Type 0 where
  pub history : List Entry
  pub reached : ComesTo m script None initial budget history stand playing left
  pub prints : HasPrinted printed history

abbrev pub PrintsOn : Module → Script → (initial : StepResult) → (budget : ℕ)
    → Result Stand PlayFault → PrintedLines → PlayState → (left : ℕ) → Type 0
PrintsOn m script initial budget (Ok stand) printed playing left =
    PrintsSoFar m script initial budget printed stand playing left
PrintsOn m script initial budget (Err fault) printed playing left = Refuses (program_of m script) initial budget fault

-- if the run is over, the property holds of its whole history; or there is no outcome
abbrev pub UpToEnd : Program → (initial : StepResult) → (budget : ℕ) → (Kept : Stand → (left : ℕ) → Type 0)
    → Result RunEnd PlayFault → Type 0
UpToEnd program initial budget Kept (Ok e) =
    (left : ℕ) × Kept (at.Over e.outcome) left × (e.turns ≡ budget - left)
UpToEnd program initial budget Kept (Err fault) = Refuses program initial budget fault

-- ---- places of control

-- the run is not over
abbrev pub IsOn : Stand → Type 0
IsOn (at.Over outcome) = ⊥
IsOn stand = Unit {0}

abbrev pub IsOver : Stand → Type 0
IsOver (at.Over outcome) = Unit {0}
IsOver stand = ⊥

-- 1 if the run is not over
abbrev pub going : Stand → ℕ
going (at.Over outcome) = 0
going stand = 1

-- the module or the host begins its part, or the run is over
abbrev pub BeginsPart : Stand → Type 0
BeginsPart at.Instruction = ⊥
BeginsPart stand = Unit {0}
