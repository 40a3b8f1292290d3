-- The place of control between the steps of a run, as code keeps it, and how the run goes on from there.
use Rattle.std.specs.Prelude.{◌≡◌, ℕ, ◌+◌, ◌*◌, List, [], ◌∷◌, length, map, Result, Ok, Err}
use Rattle.wasm_syntax.specs.declared.modules.Module.{Module}
use Rattle.host_script.specs.declared.scripts.Script.{Script}
use Rattle.history_spec.specs.declared.entries.Entry.{Entry}
use Rattle.history_spec.specs.Code.{code_of}
use Rattle.history_spec.specs.Configuration.{Frame, Activation, InModule}
use Rattle.history_spec.specs.Settle.{settle}
use Rattle.history_spec.specs.Configuration.{Config}
use Rattle.history_spec.specs.Step.{Running, Finished, Faulted, StepResult, step_result, after_entries, after_settling, step}
use Rattle.history_spec.specs.Run.{program_of}
use Rattle.type_safety.specs.Configurations.{IsGoing}
use Rattle.type_safety.specs.Heights.{Heights}
use Rattle.flat_steps.specs.Follows.{AwaitsHost}
use Rattle.host_actions.specs.Ready.{AreOf}
use Rattle.wasm_interp.specs.State.{StandsFor}
use Rattle.wasm_interp.specs.Calls.{IsRun, config_of}
use Rattle.host_play.specs.declared.host_steps.PlayStep.{PlayStep}
use Rattle.host_play.specs.declared.play_state.Stand.{Stand}
use Rattle.host_play.specs.declared.play_state.Stand.TheVariants as at
use Rattle.host_play.specs.declared.play_state.PlayState.{PlayState}
use Rattle.host_play.specs.declared.play_state.Refusal.{Refusal}
use Rattle.host_play.specs.declared.play_state.Refusal.TheVariants as refusal
use Rattle.host_play.specs.Hosts.{Plays, kept}

-- a stack of activations is that of the machine and of the host's own ones
pub record IsStack (m : Module) (heights : Heights) (script : Script)
    (stack : List Activation) (playing : PlayState) : Type 0 where
  pub machine : StandsFor m heights stack playing.machine
  pub hosts : Plays script stack playing.hosts

-- control is at an instruction
pub record AtInstruction (m : Module) (heights : Heights) (script : Script)
    (counts : List ℕ) (playing : PlayState) (s : StepResult) : Type 0 where
  pub frame : Frame
  pub below : List Activation
  pub stack : IsStack m heights script (InModule frame ∷ below) playing
  pub going : IsGoing frame.at.rest
  pub same : s ≡ step_result [] (Running (config_of playing.machine (InModule frame ∷ below) counts))

-- control has come to the module, and the returns that are due are not performed yet
pub record InsideModule (m : Module) (heights : Heights) (script : Script)
    (counts : List ℕ) (playing : PlayState) (s : StepResult) : Type 0 where
  pub frame : Frame
  pub below : List Activation
  pub stack : IsStack m heights script (InModule frame ∷ below) playing
  pub same : s ≡ after_settling playing.machine.store counts (settle (InModule frame ∷ below))

-- control is with the host, which may have nothing left to do
pub record AtHost (m : Module) (heights : Heights) (script : Script)
    (counts : List ℕ) (playing : PlayState) (s : StepResult) : Type 0 where
  pub activations : List Activation
  pub stack : IsStack m heights script activations playing
  pub awaits : AwaitsHost activations
  pub same : s ≡ after_settling playing.machine.store counts (settle activations)

-- how the run goes on from a place of control
abbrev pub GoesOn : Module → Heights → Script → List ℕ → Stand → PlayState → StepResult → Type 0
GoesOn m heights script counts at.Instruction playing s = AtInstruction m heights script counts playing s
GoesOn m heights script counts at.Module playing s = InsideModule m heights script counts playing s
GoesOn m heights script counts at.Host playing s = AtHost m heights script counts playing s
GoesOn m heights script counts (at.Over outcome) playing s = s ≡ step_result [] (Finished outcome)

-- the run of a module under a script goes on from here as `s`
pub record StandsAt (m : Module) (script : Script) (stand : Stand) (playing : PlayState) (s : StepResult) : Type 0 where
  pub heights : Heights
  pub counts : List ℕ
  pub is_run : IsRun m heights (program_of m script) counts
  pub functions : AreOf (code_of m) playing.functions
  pub counted : playing.counts.items ≡ map kept counts
  pub goes_on : GoesOn m heights script counts stand playing s

-- some run is at this place and goes on from it
abbrev pub IsPlayed : Script → Stand → PlayState → Type 0
IsPlayed script stand playing = (m : Module) × (s : StepResult) × StandsAt m script stand playing s

-- what follows without a turn has these entries, and the run goes on
pub record Leads (m : Module) (script : Script) (s : StepResult) (entries : List Entry)
    (stand : Stand) (playing : PlayState) : Type 0 where
  pub next : StepResult
  pub same : s ≡ after_entries entries next
  pub standing : StandsAt m script stand playing next

-- why the run does not go on
abbrev pub Stops : Refusal → StepResult → Type 0
Stops (refusal.Fault kind) s = s.next ≡ Faulted kind
Stops refusal.Memory s = Unit {0}

abbrev pub LeadsBy : Module → Script → StepResult → Result PlayStep Refusal → PlayState → Type 0
LeadsBy m script s (Ok moved) playing = Leads m script s moved.entries moved.stand playing
LeadsBy m script s (Err refused) playing = Stops refused s

-- a step is made, with what follows without a turn
pub record MakesStep (m : Module) (script : Script) (s : StepResult)
    (result : Result PlayStep Refusal) (playing : PlayState) : Type 0 where
  pub config : Config
  pub standing : s ≡ step_result [] (Running config)
  pub leads : LeadsBy m script (step (program_of m script) config) result playing

-- how much a run may still do without a turn
abbrev pub rest_at : Stand → (hosts : ℕ) → ℕ
rest_at at.Module hosts = 2 * hosts + 2
rest_at at.Host hosts = 2 * hosts + 1
rest_at stand hosts = 2 * hosts

abbrev pub rest : Stand → PlayState → ℕ
rest stand playing = rest_at stand (length playing.hosts)
