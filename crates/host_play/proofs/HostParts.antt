-- The host's part of a run, after the run's earlier steps.
use Rattle.std.proofs.Common.{◌≡◌, ℕ, ◌+◌, ◌-◌, List, [], ◌++◌, sym, ap, ◌∙◌, subst, arith, inl, inr}
use Rattle.std.specs.Prelude.{None, Result, Ok, Err}
use Rattle.wasm_syntax.specs.declared.modules.Module.{Module}
use Rattle.host_script.specs.declared.scripts.Script.{Script}
use Rattle.history_spec.specs.declared.entries.Entry.{Entry}
use Rattle.history_spec.specs.Configuration.{Config}
use Rattle.history_spec.specs.Step.{Running, StepResult, step_result, step}
use Rattle.history_spec.specs.Run.{program_of}
use Rattle.history_spec.proofs.Budgets.{takes_one}
use Rattle.wasm_flat.specs.Meters.{Weighing}
use Rattle.host_play.specs.declared.host_steps.HostStep.{HostStep}
use Rattle.host_play.specs.declared.host_steps.HostStep.TheVariants as host_step
use Rattle.host_play.specs.declared.host_steps.PlayStep.{PlayStep}
use Rattle.host_play.specs.declared.play_state.PlayState.{PlayState}
use Rattle.host_play.specs.declared.play_state.Refusal.{Refusal}
use Rattle.host_play.specs.declared.play_state.Refusal.TheVariants as unmade
use Rattle.host_play.specs.declared.play_state.Stand.TheVariants as at
use Rattle.host_play.specs.declared.results.PlayFault.{PlayFault}
use Rattle.host_play.specs.declared.results.PlayFault.TheVariants as refusal
use Rattle.host_play.specs.HostParts.{BeforeHostStep, HostDid, HostStops, MakesHostStep}
use Rattle.host_play.specs.HostSteps.{play_step_of, entries_of, stand_after}
use Rattle.host_play.specs.Results.{Refuses, play_fault}
use Rattle.host_play.specs.RunsSoFar.{BeginsPart, ComesTo}
use Rattle.host_play.specs.Stands.{LeadsBy, MakesStep}
use Rattle.host_play.proofs.NextSteps.{goes_free, goes_step, host_weight, spends, step_fails}

same_config : (s : StepResult) (a b : Config) → s ≡ step_result [] (Running a) → s ≡ step_result [] (Running b) → a ≡ b
same_config s a b first second = let same : Running a ≡ Running b = ap (λ (t : StepResult). t.next) (sym first ∙ second) in cc

-- a step of the run before a step of the host
pub made_by_host : (m : Module) (script : Script) (s : StepResult) (result : Result PlayStep Refusal)
    (playing : PlayState) → BeforeHostStep s → MakesStep m script s result playing
    → MakesHostStep m script s result playing
made_by_host m script s result playing before made = record {
  before = before;
  leads =
      subst (λ config. LeadsBy m script (step (program_of m script) config) result playing)
      (same_config s made.config before.config made.standing before.standing) made.leads;
}

abbrev pub step_made : (m : Module) (script : Script) (s : StepResult) (result : Result PlayStep Refusal)
    (playing : PlayState) → MakesHostStep m script s result playing → MakesStep m script s result playing
step_made m script s result playing made = record { config = made.before.config; standing = made.before.standing; leads = made.leads }

-- the action that cannot be done
pub action_stops : (m : Module) (script : Script) (s : StepResult) (budget left now : ℕ) (unmade_by : Refusal)
    (playing : PlayState) → now + 1 ≡ left → BeforeHostStep s → MakesStep m script s (Err unmade_by) playing
    → HostStops m script s budget left (play_fault unmade_by (budget - now)) playing now
action_stops m script s budget left now (unmade.Fault kind) playing one before made =
    let same : budget - now ≡ budget - now = omega arith in
    (one, same, made_by_host m script s (Err (unmade.Fault kind)) playing before made)
action_stops m script s budget left now unmade.Memory playing one before made = tt

-- what the host did leads to the beginning of a part, or to the end
pub part_after : (did : HostStep) → BeginsPart (stand_after did)
part_after host_step.Stays = tt
part_after (host_step.Calls func args) = tt
part_after (host_step.Returns import value) = tt
part_after host_step.Traps = tt
part_after host_step.Ends = tt

-- ---- after the run's earlier steps

pub host_comes : (m : Module) (script : Script) (weighing : Weighing) (initial : StepResult) (budget : ℕ)
    (history : List Entry) (playing : PlayState) (left : ℕ)
    → (r : ComesTo m script weighing initial budget history at.Host playing left) → (did : HostStep) (new_playing : PlayState) (now : ℕ)
    → HostDid m script r.pending left did new_playing now
    → ComesTo m script weighing initial budget (history ++ entries_of did) (stand_after did) new_playing now
host_comes m script weighing initial budget history playing left r did new_playing now (inl free) =
    subst (ComesTo m script weighing initial budget (history ++ entries_of did) (stand_after did) new_playing) (sym free.0)
    (goes_free m script weighing initial budget history at.Host playing left r (play_step_of did) new_playing free.1)
host_comes m script weighing initial budget history playing left r did new_playing now (inr made) =
    goes_step m script weighing initial budget history at.Host playing left r (play_step_of did) new_playing now made.0
    (step_made m script r.pending (Ok (play_step_of did)) new_playing made.1)
    (host_weight m weighing made.1.before.config.stack made.1.before.awaits)

pub host_refuses : (m : Module) (script : Script) (initial : StepResult) (budget : ℕ) (history : List Entry) (playing : PlayState) (left : ℕ)
    → (r : ComesTo m script None initial budget history at.Host playing left) → (fault : PlayFault) (new_playing : PlayState) (now : ℕ)
    → HostStops m script r.pending budget left fault new_playing now → Refuses (program_of m script) initial budget fault
host_refuses m script initial budget history playing left r (refusal.Fault turn kind) new_playing now stops =
    let spent : r.used + left ≡ budget = r.spent in
    step_fails m script initial budget history at.Host playing left r (unmade.Fault kind) new_playing now turn stops.0 (omega (arith, stops.0, stops.1))
    (step_made m script r.pending (Err (unmade.Fault kind)) new_playing stops.2)
host_refuses m script initial budget history playing left r refusal.Spent new_playing now stops =
    spends m script None initial budget history at.Host playing left r stops.1.config stops.0 (takes_one stops.1.config.stack) stops.1.standing
host_refuses m script initial budget history playing left r (refusal.Hook number) new_playing now stops = absurd stops
host_refuses m script initial budget history playing left r refusal.Memory new_playing now stops = tt
