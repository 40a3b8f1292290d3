-- How far the run of a replay module has come within its turns, while its lines are written.
use Rattle.std.specs.Prelude.{◌≡◌, ◌≢◌, ℕ, ◌+◌, ◌≤◌, List, [], ◌∷◌, Option, Some, Result, Ok, Err, IfSome}
use Rattle.wasm_syntax.specs.declared.modules.Module.{Module}
use Rattle.host_script.specs.declared.scripts.Action.{Action}
use Rattle.host_script.specs.declared.scripts.Action.TheVariants.{Call}
use Rattle.base.specs.declared.outcomes.Outcome.{Outcome}
use Rattle.base.specs.declared.outcomes.Outcome.TheVariants.{Trapped as ByTrap}
use Rattle.wasm_syntax.specs.declared.signatures.FuncType.{FuncType}
use Rattle.wasm_syntax.specs.Index.{imported_funcs}
use Rattle.history_spec.specs.declared.entries.Entry.{Entry}
use Rattle.history_spec.specs.declared.entries.Entry.TheVariants.{HostCall}
use Rattle.history_spec.specs.Budget.{IsOverWithin, IsSpent}
use Rattle.history_spec.specs.Code.{code_of, signature}
use Rattle.history_spec.specs.Configuration.{Activation, Frame, InMain, InModule}
use Rattle.history_spec.specs.Projection.{Layout, Original, shown_outcome, side, trap_outcome}
use Rattle.history_spec.specs.Replay.{instructions, program_alone}
use Rattle.history_spec.specs.Run.{Run, run_from, steps}
use Rattle.history_spec.specs.Store.{Store}
use Rattle.history_spec.specs.Settle.{settle}
use Rattle.history_spec.specs.Step.{Finished, Progress, Running, StepResult, after_entries, enter_function, progress_of, start, step}
use Rattle.type_safety.specs.Configurations.{IsGoing}
use Rattle.type_safety.specs.Heights.{Heights}
use Rattle.flat_steps.specs.Follows.{outside_of}
use Rattle.wasm_interp.specs.Calls.{IsRun, config_of}
use Rattle.wasm_interp.specs.Frames.{func_of}
use Rattle.wasm_interp.specs.State.{StandsFor, State}
use Rattle.wasm_interp.specs.declared.machine.Pause.{Pause}
use Rattle.wasm_interp.specs.declared.machine.Pause.TheVariants as pause
use Rattle.replay_run.specs.declared.calls.CallStand.{CallStand}
use Rattle.replay_run.specs.declared.calls.CallStand.TheVariants as at
use Rattle.replay_run.specs.declared.results.ReplayFault.{ReplayFault}
use Rattle.replay_run.specs.declared.results.ReplayFault.TheVariants as fault
use Rattle.shown_lines.specs.ShownLines.{AreNoTraps, HasShown, SetArguments, ShownLines, Shows}

-- ---- a call by the host, which has further actions after the call

abbrev pub host : List Action → List Activation
host actions = InMain actions ∷ []

-- control is at an instruction
pub record AtInstruction (m : Module) (heights : Heights) (actions : List Action) (machine : State) (next : Progress)
    : Type 0 where
  pub frame : Frame
  pub below : List Activation
  pub stands : StandsFor m heights (InModule frame ∷ below) machine
  pub going : IsGoing frame.at.rest
  pub called : outside_of below ≡ host actions
  pub same : next ≡ Running (config_of machine (InModule frame ∷ below) [])

-- the function has returned to the host
pub record AtHost (m : Module) (heights : Heights) (actions : List Action) (machine : State) (next : Progress)
    : Type 0 where
  pub stands : StandsFor m heights (host actions) machine
  pub same : next ≡ progress_of machine.store [] (settle (host actions)).next

-- where a call is, by the history so far, and how the run goes on; a trap is the last entry of a history
abbrev pub GoesOn : Module → Heights → List Action → CallStand → ShownLines → List Entry → State → Progress → Type 0
GoesOn m heights actions at.Instruction shown history machine next =
    AtInstruction m heights actions machine next × AreNoTraps history
GoesOn m heights actions at.Returned shown history machine next =
    AtHost m heights actions machine next × AreNoTraps history
GoesOn m heights actions (at.Trapped outcome) shown history machine next =
    (next ≡ Finished ByTrap) × (outcome ≡ trap_outcome shown.layout history)

-- the run has made some steps and has `left` turns left; what they show is written, and the call is at `stand`
pub record ShowsSoFar (m : Module) (actions : List Action) (initial : StepResult) (turns : ℕ) (stand : CallStand)
    (shown : ShownLines) (machine : State) (left : ℕ) : Type 0 where
  pub heights : Heights
  pub is_run : IsRun m heights (program_alone m) []
  pub steps : ℕ
  pub history : List Entry
  pub used : ℕ
  pub next : Progress
  pub run : run_from (program_alone m) instructions initial steps
      ≡ record { history = history; turns = used; at = next }
  pub all : used + left ≡ turns
  pub prints : HasShown shown history
  pub goes_on : GoesOn m heights actions stand shown history machine next

-- some run has come to this state of its call
abbrev pub IsShown : CallStand → ShownLines → State → Type 0
IsShown stand shown machine =
    (m : Module) × (actions : List Action) × (initial : StepResult) × (turns : ℕ) × (left : ℕ)
    × ShowsSoFar m actions initial turns stand shown machine left

-- the run is spent; out of memory has no cause; no other fault occurs while the module runs
abbrev pub StopsBy : Module → (initial : StepResult) → (turns : ℕ) → ReplayFault → Type 0
StopsBy m initial turns fault.Spent = IsSpent (run_from (program_alone m) instructions initial) instructions turns
StopsBy m initial turns fault.Memory = Unit {0}
StopsBy m initial turns found = ⊥

-- the call is at `stand` after further steps, or there is no outcome
abbrev pub ShowsOn : Module → List Action → (initial : StepResult) → (turns : ℕ) → Result CallStand ReplayFault
    → ShownLines → State → (left : ℕ) → Type 0
ShowsOn m actions initial turns (Ok stand) shown machine left =
    ShowsSoFar m actions initial turns stand shown machine left
ShowsOn m actions initial turns (Err found) shown machine left = StopsBy m initial turns found

-- every run that has come to the first state goes on to the second, or stops
abbrev pub GoesFrom : (stand : CallStand) → (shown : ShownLines) → State → (left : ℕ) → Result CallStand ReplayFault
    → ShownLines → State → (left : ℕ) → Type 0
GoesFrom stand shown machine left result after_shown after after_left =
    (m : Module) (actions : List Action) (initial : StepResult) (turns : ℕ)
    → ShowsSoFar m actions initial turns stand shown machine left
    → ShowsOn m actions initial turns result after_shown after after_left

-- ---- parts of a run

-- a part of a run: its lines are written, and the call is at `stand` after it
pub record Leads (m : Module) (heights : Heights) (actions : List Action) (stand : CallStand) (old new : ShownLines)
    (machine : State) (entries : List Entry) (next : Progress) : Type 0 where
  pub shows : Shows old new [] entries
  pub sets : SetArguments entries
  pub goes_on : GoesOn m heights actions stand new entries machine next

-- a function that the module defines has no parameters
pub record TakesNothing (m : Module) (func : ℕ) : Type 0 where
  pub defined : imported_funcs m ≤ func
  pub ty : FuncType
  pub has_type : signature (code_of m) func ≡ Some ty
  pub none : ty.params ≡ []

-- the host may call a function without parameters, with these actions to do after the call
pub record CanCall (m : Module) (heights : Heights) (actions : List Action) (machine : State) (func : ℕ)
    : Type 0 where
  pub is_run : IsRun m heights (program_alone m) []
  pub stands : StandsFor m heights (host actions) machine
  pub takes : TakesNothing m func

abbrev pub IsCalled : State → (func : ℕ) → Type 0
IsCalled machine func =
    (m : Module) × (heights : Heights) × (actions : List Action) × CanCall m heights actions machine func

-- the step in which the host calls the function
abbrev pub call_by_host : Module → Store → (func : ℕ) → List Action → StepResult
call_by_host m store func actions =
    after_entries (HostCall func [] ∷ []) (enter_function (code_of m) store [] func [] (host actions))

-- the host calls the function
abbrev pub BeginsCall : ShownLines → State → (func : ℕ) → CallStand → ShownLines → State → Type 0
BeginsCall old machine func stand new after =
    (m : Module) (heights : Heights) (actions : List Action) → CanCall m heights actions machine func
    → Leads m heights actions stand old new after (call_by_host m machine.store func actions).entries
    (call_by_host m machine.store func actions).next

-- a machine is at an instruction of a run
pub record StandsAt (m : Module) (heights : Heights) (actions : List Action) (machine : State) (frame : Frame)
    (below : List Activation) : Type 0 where
  pub is_run : IsRun m heights (program_alone m) []
  pub stands : StandsFor m heights (InModule frame ∷ below) machine
  pub going : IsGoing frame.at.rest
  pub called : outside_of below ≡ host actions

-- the next instruction of each configuration that the machine represents is executed
abbrev pub MakesStep : ShownLines → State → CallStand → ShownLines → State → Type 0
MakesStep old machine stand new after =
    (m : Module) (heights : Heights) (actions : List Action) (frame : Frame) (below : List Activation)
    → StandsAt m heights actions machine frame below
    → Leads m heights actions stand old new after
    (step (program_alone m) (config_of machine (InModule frame ∷ below) [])).entries
    (step (program_alone m) (config_of machine (InModule frame ∷ below) [])).next

-- control is outside the original
abbrev pub IsOutside : Layout → State → Type 0
IsOutside layout machine = (func : ℕ) → func_of machine.frames ≡ Some func → side layout func ≢ Original

-- a part of a run in steps, with the turns left after it
pub record LeadsOn (m : Module) (heights : Heights) (actions : List Action) (first : Progress) (turns : ℕ)
    (stand : CallStand) (old new : ShownLines) (machine : State) (left : ℕ) : Type 0 where
  pub count : ℕ
  pub entries : List Entry
  pub used : ℕ
  pub next : Progress
  pub run : steps (program_alone m) instructions count first
      ≡ record { history = entries; turns = used; at = next }
  pub all : used + left ≡ turns
  pub leads : Leads m heights actions stand old new machine entries next

-- instructions outside the original are executed, from each configuration that the machine represents
abbrev pub WalksOutside : ShownLines → State → (turns : ℕ) → CallStand → ShownLines → State → (left : ℕ) → Type 0
WalksOutside old machine turns stand new after left =
    (m : Module) (heights : Heights) (actions : List Action) (frame : Frame) (below : List Activation)
    → StandsAt m heights actions machine frame below
    → LeadsOn m heights actions (Running (config_of machine (InModule frame ∷ below) [])) turns stand old new after left

-- ---- places of calls

-- the call has returned or trapped
abbrev pub IsOver : CallStand → Type 0
IsOver at.Instruction = ⊥
IsOver stand = Unit {0}

-- where a call is after a part of the run, by the pause that ended the part, and the outcome of a trap; the pause is
-- not an import's, since the module has no imports, and not one for want of turns
abbrev pub stand_at : Option Pause → Outcome → CallStand
stand_at (Some pause.Returned) outcome = at.Returned
stand_at (Some pause.Trapped) outcome = at.Trapped outcome
stand_at end outcome = at.Instruction

-- where a call is after a part of the run, by the pause that ended the part and its entries
abbrev pub stand_of : Layout → Option Pause → List Entry → CallStand
stand_of layout end entries = stand_at end (trap_outcome layout entries)

abbrev pub IsOwnPause : Option Pause → Type 0
IsOwnPause (Some (pause.Import index)) = ⊥
IsOwnPause (Some pause.Spent) = ⊥
IsOwnPause other = Unit {0}

-- ---- the whole run

-- the actions of the host after the start function: it calls the entry
abbrev pub main_of : (entry : ℕ) → List Action
main_of entry = Call entry [] ∷ []

-- the machine is ready for a module whose host calls the entry after the start function
pub record IsReady (m : Module) (heights : Heights) (start : Option ℕ) (entry : ℕ) (machine : State) : Type 0 where
  pub is_run : IsRun m heights (program_alone m) []
  pub starts : m.start ≡ start
  pub start_function : IfSome start (TakesNothing m)
  pub entry_function : TakesNothing m entry
  pub stands : StandsFor m heights (host (main_of entry)) machine

-- the run begins with a call of the start function; without one, control is at the host as after a return
abbrev pub BeginsRun : Option ℕ → (entry : ℕ) → ShownLines → State → CallStand → ShownLines → State → Type 0
BeginsRun first entry old machine stand new after =
    (m : Module) (heights : Heights) (turns : ℕ) → IsReady m heights first entry machine → HasShown old []
    → ShowsSoFar m (main_of entry) (start (program_alone m) first machine.store [] (main_of entry)) turns stand new
    after turns

-- the entry is called after the start function
abbrev pub EntersEntry : (entry : ℕ) → ShownLines → State → CallStand → ShownLines → State → Type 0
EntersEntry entry old machine stand new after =
    (m : Module) (initial : StepResult) (turns left : ℕ) → TakesNothing m entry
    → ShowsSoFar m (main_of entry) initial turns at.Returned old machine left
    → ShowsSoFar m [] initial turns stand new after left

-- some run has come to the state directly before the call of the entry
abbrev pub EntryIsNext : (entry : ℕ) → ShownLines → State → Type 0
EntryIsNext entry shown machine =
    (m : Module) × (initial : StepResult) × (turns : ℕ) × (left : ℕ) × TakesNothing m entry
    × ShowsSoFar m (main_of entry) initial turns at.Returned shown machine left

-- the run ended with an outcome; what it shows of the original is written, with this outcome
pub record EndsBy (m : Module) (initial : StepResult) (turns : ℕ) (outcome : Outcome) (shown : ShownLines) (left : ℕ)
    : Type 0 where
  pub run : Run
  pub within : IsOverWithin (run_from (program_alone m) instructions initial) turns run
  pub own : Outcome
  pub ended : run.at ≡ Finished own
  pub outcome_is : outcome ≡ shown_outcome shown.layout run.history own
  pub prints : HasShown shown run.history
  pub all : run.turns + left ≡ turns

abbrev pub EndsOrStops : Module → (initial : StepResult) → (turns : ℕ) → Result Outcome ReplayFault → ShownLines
    → (left : ℕ) → Type 0
EndsOrStops m initial turns (Ok outcome) shown left = EndsBy m initial turns outcome shown left
EndsOrStops m initial turns (Err found) shown left = StopsBy m initial turns found

-- every ready module whose run has shown nothing yet runs to this result
abbrev pub RunsFrom : Option ℕ → (entry : ℕ) → ShownLines → State → (turns : ℕ) → Result Outcome ReplayFault
    → ShownLines → (left : ℕ) → Type 0
RunsFrom first entry old machine turns result new left =
    (m : Module) (heights : Heights) → IsReady m heights first entry machine → HasShown old []
    → EndsOrStops m (start (program_alone m) first machine.store [] (main_of entry)) turns result new left
