-- The result of a run within a budget of turns.
use Rattle.std.specs.Prelude.{◌≡◌, ℕ, length, Result, Ok, Err}
use Rattle.history_spec.specs.declared.entries.FaultKind.{FaultKind}
use Rattle.history_spec.specs.Budget.{IsOverWithin, IsSpent}
use Rattle.history_spec.specs.Line.{history_text}
use Rattle.history_spec.specs.Run.{Run, all_one, run_from}
use Rattle.history_spec.specs.Step.{Program, StepResult, Finished, Faulted}
use Rattle.host_play.specs.declared.results.PlayFault.{PlayFault}
use Rattle.host_play.specs.declared.results.PlayFault.TheVariants as refusal
use Rattle.host_play.specs.declared.play_state.Refusal.{Refusal}
use Rattle.host_play.specs.declared.play_state.Refusal.TheVariants as unmade
use Rattle.host_play.specs.declared.results.PrintedRun.{PrintedRun}

-- the run is over by an outcome: its history and its outcome as lines, how many entries it has, the turns that it took
pub record PrintsRun (program : Program) (initial : StepResult) (budget : ℕ) (printed : PrintedRun) : Type 0 where
  pub run : Run
  pub within : IsOverWithin (run_from program all_one initial) budget run
  pub outcome : run.at ≡ Finished printed.outcome
  pub text : printed.text ≡ history_text run.history printed.outcome
  pub entries : printed.entries ≡ length run.history
  pub turns : printed.turns ≡ run.turns

-- the run is over by this fault of the script, with these turns, that of the faulty action among them
pub record IsFault (program : Program) (initial : StepResult) (budget turn : ℕ) (kind : FaultKind) : Type 0 where
  pub run : Run
  pub within : IsOverWithin (run_from program all_one initial) budget run
  pub kind_is : run.at ≡ Faulted kind
  pub turn_is : run.turns ≡ turn

-- why there is no outcome; exhausted memory has no cause
abbrev pub Refuses : Program → (initial : StepResult) → (budget : ℕ) → PlayFault → Type 0
Refuses program initial budget (refusal.Fault turn kind) = IsFault program initial budget turn kind
Refuses program initial budget refusal.Spent = IsSpent (run_from program all_one initial) all_one budget
Refuses program initial budget (refusal.Hook number) = ⊥
Refuses program initial budget refusal.Memory = Unit {0}

-- the result of a run within a budget of turns: its history and outcome as lines, or why there is no outcome
abbrev pub IsPrinted : Program → (initial : StepResult) → (budget : ℕ) → Result PrintedRun PlayFault → Type 0
IsPrinted program initial budget (Ok printed) = PrintsRun program initial budget printed
IsPrinted program initial budget (Err fault) = Refuses program initial budget fault

-- the fault of a run in which a step is refused
abbrev pub play_fault : Refusal → (turn : ℕ) → PlayFault
play_fault (unmade.Fault kind) turn = refusal.Fault turn kind
play_fault unmade.Memory turn = refusal.Memory
