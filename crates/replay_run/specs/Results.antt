-- What the run of a replay module returns within a number of turns; each of its instructions takes one turn.
use Rattle.std.specs.Prelude.{◌≡◌, ℕ, [], length, Result, Ok, Err}
use Rattle.wasm_syntax.specs.declared.modules.Module.{Module}
use Rattle.host_script.specs.declared.scripts.LinkFault.TheVariants.{Segment}
use Rattle.base.specs.declared.outcomes.Outcome.{Outcome}
use Rattle.history_spec.specs.Budget.{IsOverWithin, IsSpent}
use Rattle.history_spec.specs.Instantiation.{instantiate}
use Rattle.history_spec.specs.Line.{history_text}
use Rattle.history_spec.specs.Projection.{Layout, Projection, projection}
use Rattle.history_spec.specs.Replay.{alone, instructions, program_alone, run_start_alone}
use Rattle.history_spec.specs.Run.{Run, run_from}
use Rattle.history_spec.specs.Step.{Finished, StepResult}
use Rattle.host_play.specs.declared.results.PrintedRun.{PrintedRun}
use Rattle.replay_run.specs.declared.results.ReplayFault.{ReplayFault}
use Rattle.replay_run.specs.declared.results.ReplayFault.TheVariants as fault
use Rattle.replay_form.specs.Forms.{HasEntry, HasLayout, IsReplayable}

-- the run of the module ends with an outcome within the turns, and the result reports it: the projection as
-- lines, the number of its entries, and the turns that the run took
pub record PrintsReplay (m : Module) (turns : ℕ) (printed : PrintedRun) : Type 0 where
  pub layout : Layout
  pub entry : ℕ
  pub form : IsReplayable m layout entry
  pub initial : StepResult
  pub starts : run_start_alone m entry ≡ Ok initial
  pub run : Run
  pub within : IsOverWithin (run_from (program_alone m) instructions initial) turns run
  pub own : Outcome
  pub ended : run.at ≡ Finished own
  pub shown : Projection
  pub projected : projection layout run.history own ≡ shown
  pub text : printed.text ≡ history_text shown.history shown.outcome
  pub outcome : printed.outcome ≡ shown.outcome
  pub entries : printed.entries ≡ length shown.history
  pub turns_are : printed.turns ≡ run.turns

-- the run has no outcome within the turns: all are used, and the next instruction takes one
pub record IsSpentReplay (m : Module) (turns : ℕ) : Type 0 where
  pub layout : Layout
  pub entry : ℕ
  pub form : IsReplayable m layout entry
  pub initial : StepResult
  pub starts : run_start_alone m entry ≡ Ok initial
  pub spent : IsSpent (run_from (program_alone m) instructions initial) instructions turns

-- a segment does not fit into its table or memory; element segments are checked before data segments
pub record IsUnlinked (m : Module) (segment : ℕ) : Type 0 where
  pub layout : Layout
  pub entry : ℕ
  pub form : IsReplayable m layout entry
  pub unfit : instantiate m alone ≡ Err (Segment segment)

-- the cause of each fault: it is the first cause that applies; out of memory has no cause
abbrev pub RefusesReplay : Module → (turns : ℕ) → ReplayFault → Type 0
RefusesReplay m turns fault.NoLayout = (layout : Layout) → HasLayout m layout → ⊥
RefusesReplay m turns fault.Imports = ((layout : Layout) × HasLayout m layout) × (m.imports ≡ [] → ⊥)
RefusesReplay m turns fault.NoEntry =
    ((layout : Layout) × HasLayout m layout) × (m.imports ≡ []) × ((entry : ℕ) → HasEntry m entry → ⊥)
RefusesReplay m turns (fault.Link segment) = IsUnlinked m segment
RefusesReplay m turns fault.Spent = IsSpentReplay m turns
RefusesReplay m turns fault.Memory = Unit {0}

-- the faults of making the store: a segment does not fit, or memory is out
abbrev pub RefusesStore : Module → ReplayFault → Type 0
RefusesStore m (fault.Link segment) = instantiate m alone ≡ Err (Segment segment)
RefusesStore m fault.Memory = Unit {0}
RefusesStore m found = ⊥

-- the faults of the module's form: in the layout, the imports or the exports, or memory is out
abbrev pub RefusesForm : Module → ReplayFault → Type 0
RefusesForm m (fault.Link segment) = ⊥
RefusesForm m fault.Spent = ⊥
RefusesForm m found = RefusesReplay m 0 found

-- the result of running a replay module within a number of turns: the projection of the run as lines, or a fault with
-- its cause
abbrev pub IsReplay : Module → (turns : ℕ) → Result PrintedRun ReplayFault → Type 0
IsReplay m turns (Ok printed) = PrintsReplay m turns printed
IsReplay m turns (Err found) = RefusesReplay m turns found
