-- The host's part of a run: its next action, if a turn is left for it, or the end of what the host has to do.
use Rattle.std.specs.Prelude.{◌≡◌, ℕ, ◌+◌, ◌-◌, [], Result, Ok, Err, ◌⊎◌}
use Rattle.wasm_syntax.specs.declared.modules.Module.{Module}
use Rattle.host_script.specs.declared.scripts.Script.{Script}
use Rattle.history_spec.specs.Configuration.{Config}
use Rattle.history_spec.specs.Step.{Running, StepResult, step_result, step}
use Rattle.history_spec.specs.Run.{program_of}
use Rattle.flat_steps.specs.Follows.{AwaitsHost}
use Rattle.host_play.specs.declared.host_steps.HostStep.{HostStep}
use Rattle.host_play.specs.declared.host_steps.PlayStep.{PlayStep}
use Rattle.host_play.specs.declared.play_state.PlayState.{PlayState}
use Rattle.host_play.specs.declared.play_state.Refusal.{Refusal}
use Rattle.host_play.specs.declared.play_state.Refusal.TheVariants as unmade
use Rattle.host_play.specs.declared.results.PlayFault.{PlayFault}
use Rattle.host_play.specs.declared.results.PlayFault.TheVariants as refusal
use Rattle.host_play.specs.HostSteps.{play_step_of, entries_of, stand_after}
use Rattle.host_play.specs.Stands.{Leads, LeadsBy}

-- the run is before a step of the host
pub record BeforeHostStep (s : StepResult) : Type 0 where
  pub config : Config
  pub standing : s ≡ step_result [] (Running config)
  pub awaits : AwaitsHost config.stack

-- a step of the host is made, with what follows without a turn
pub record MakesHostStep (m : Module) (script : Script) (s : StepResult) (result : Result PlayStep Refusal)
    (playing : PlayState) : Type 0 where
  pub before : BeforeHostStep s
  pub leads : LeadsBy m script (step (program_of m script) before.config) result playing

-- the host did this with `left` turns: its part ended without a turn, or an action took one
abbrev pub HostDid : Module → Script → StepResult → (left : ℕ) → HostStep → PlayState → (now : ℕ) → Type 0
HostDid m script s left did playing now =
    ((now ≡ left) × Leads m script s (entries_of did) (stand_after did) playing)
    ⊎ ((now + 1 ≡ left) × MakesHostStep m script s (Ok (play_step_of did)) playing)

-- the host's action cannot be done, or no turn is left for it; exhausted memory has no cause
abbrev pub HostStops : Module → Script → StepResult → (budget left : ℕ) → PlayFault → PlayState → (now : ℕ) → Type 0
HostStops m script s budget left (refusal.Fault turn kind) playing now =
    (now + 1 ≡ left) × (turn ≡ budget - now) × MakesHostStep m script s (Err (unmade.Fault kind)) playing
HostStops m script s budget left refusal.Spent playing now = (left ≡ 0) × BeforeHostStep s
HostStops m script s budget left (refusal.Hook number) playing now = ⊥
HostStops m script s budget left refusal.Memory playing now = Unit {0}

abbrev pub HostGoes : Module → Script → StepResult → (budget left : ℕ) → Result HostStep PlayFault → PlayState
    → (now : ℕ) → Type 0
HostGoes m script s budget left (Ok did) playing now = HostDid m script s left did playing now
HostGoes m script s budget left (Err fault) playing now = HostStops m script s budget left fault playing now
