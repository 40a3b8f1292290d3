-- The module's turn is the step of the run.
use Rattle.std.proofs.Common.{◌≡◌, ℕ, ◌<◌, ◌∷◌, length, Option, Some, None, List, subst}
use Rattle.std.specs.Prelude.{Result, Ok, Err}
use Rattle.wasm_syntax.specs.declared.modules.Module.{Module}
use Rattle.host_script.specs.declared.scripts.Script.{Script}
use Rattle.base.specs.declared.outcomes.Outcome.TheVariants.{Trapped as ByTrap}
use Rattle.history_spec.specs.Configuration.{Config, InModule}
use Rattle.history_spec.specs.Step.{StepResult, step}
use Rattle.history_spec.specs.Run.{program_of}
use Rattle.flat_steps.specs.Follows.{outside_of}
use Rattle.wasm_interp.specs.declared.machine.Pause.TheVariants as pause
use Rattle.wasm_interp.specs.declared.machine.Pause.{Pause}
use Rattle.wasm_interp.specs.declared.machine.Turn.{Turn}
use Rattle.wasm_interp.specs.State.{State}
use Rattle.wasm_interp.specs.Calls.{TurnIsStep, Comes, ComesToImport, config_of}
use Rattle.host_play.specs.declared.host_steps.PlayStep.{PlayStep}
use Rattle.host_play.specs.declared.play_state.Stand.TheVariants as at
use Rattle.host_play.specs.declared.play_state.Host.{Host}
use Rattle.host_play.specs.declared.play_state.Refusal.{Refusal}
use Rattle.host_play.specs.declared.play_state.PlayState.{PlayState}
use Rattle.host_play.specs.HostSteps.{play_step}
use Rattle.host_play.specs.Hosts.{BeginsAnswer, HasNoResponse}
use Rattle.host_play.specs.Stands.{LeadsBy, MakesStep, StandsAt}
use Rattle.host_play.proofs.AnswerStarts as answering
use Rattle.host_play.proofs.Arrivals.{at_instruction, at_host, at_trap}

module _ (m : Module) (script : Script) (s : StepResult) (playing : PlayState) (machine : State) (turn : Turn)
    (standing : StandsAt m script at.Instruction playing s) (run : TurnIsStep playing.machine turn machine) where
  abbrev pub config : Config
  config = config_of playing.machine (InModule standing.goes_on.frame ∷ standing.goes_on.below) standing.counts

  ComesAs : Option Pause → Type 0
  ComesAs p =
      Comes m standing.heights (program_of m script)
      (outside_of standing.goes_on.below) standing.counts p turn.entries machine (step (program_of m script) config)

  comes_as : (p : Option Pause) → turn.pause ≡ p → ComesAs p
  unfolding ComesAs
  comes_as p is =
      subst ComesAs is (run m standing.heights (program_of m script) standing.counts standing.goes_on.frame
      standing.goes_on.below standing.is_run standing.goes_on.stack.machine standing.goes_on.going)

  -- the step is made, if the model's step leads to its result
  pub turns : (result : Result PlayStep Refusal) (after : PlayState)
      → LeadsBy m script (step (program_of m script) config) result after → MakesStep m script s result after
  turns result after leads = record {
    config = config;
    standing = standing.goes_on.same;
    leads = leads;
  }

  pub turn_at_instruction : turn.pause ≡ None → MakesStep m script s (Ok (play_step at.Instruction turn.entries)) (record playing { machine = machine })
  unfolding ComesAs
  turn_at_instruction is =
      turns (Ok (play_step at.Instruction turn.entries)) (record playing { machine = machine })
      (at_instruction m standing.heights script standing.counts standing.is_run standing.goes_on.below
      (record playing { machine = machine }) standing.functions standing.counted turn.entries
      (step (program_of m script) config) standing.goes_on.stack.hosts (comes_as None is))

  pub turn_at_host : turn.pause ≡ Some pause.Returned → MakesStep m script s (Ok (play_step at.Host turn.entries)) (record playing { machine = machine })
  unfolding ComesAs
  turn_at_host is =
      turns (Ok (play_step at.Host turn.entries)) (record playing { machine = machine })
      (at_host m standing.heights script standing.counts standing.is_run standing.goes_on.below
      (record playing { machine = machine }) standing.functions standing.counted turn.entries
      (step (program_of m script) config) standing.goes_on.stack.hosts (comes_as (Some pause.Returned) is))

  pub turn_at_trap : turn.pause ≡ Some pause.Trapped
      → MakesStep m script s (Ok (play_step (at.Over ByTrap) turn.entries)) (record playing { machine = machine })
  unfolding ComesAs
  turn_at_trap is =
      turns (Ok (play_step (at.Over ByTrap) turn.entries)) (record playing { machine = machine })
      (at_trap m standing.heights script standing.counts standing.is_run standing.goes_on.below
      (record playing { machine = machine }) standing.functions standing.counted turn.entries
      (step (program_of m script) config) (comes_as (Some pause.Trapped) is))

  module _ (index : ℕ) (is : turn.pause ≡ Some (pause.Import index)) where
    comes : ComesToImport m standing.heights (program_of m script) (outside_of standing.goes_on.below) standing.counts
        index turn.entries machine (step (program_of m script) config)
    unfolding ComesAs
    comes = comes_as (Some (pause.Import index)) is

    pub counted_import : index < length playing.counts.items
    counted_import =
        answering.counted_import m standing.heights script standing.counts standing.is_run standing.goes_on.below
        playing standing.functions standing.counted standing.goes_on.stack.hosts turn.entries machine
        (step (program_of m script) config) index comes

    pub no_response : (refused : Refusal) (after : PlayState) → HasNoResponse script playing.counts.items index refused
        → MakesStep m script s (Err refused) after
    no_response refused after none =
        turns (Err refused) after
        (answering.no_response m standing.heights script standing.counts standing.is_run standing.goes_on.below playing
        standing.functions standing.counted standing.goes_on.stack.hosts turn.entries machine
        (step (program_of m script) config) index comes refused none)

    pub import_begins : (hosts : List Host) (new_playing : PlayState) → new_playing.machine ≡ machine
        → new_playing.functions ≡ playing.functions → new_playing.hosts ≡ hosts
        → BeginsAnswer script playing.hosts playing.counts.items index hosts new_playing.counts.items
        → MakesStep m script s (Ok (play_step at.Host turn.entries)) new_playing
    import_begins hosts new_playing same_machine same_functions same_hosts begins =
        turns (Ok (play_step at.Host turn.entries)) new_playing
        (answering.import_begins m standing.heights script standing.counts standing.is_run standing.goes_on.below
        playing standing.functions standing.counted standing.goes_on.stack.hosts turn.entries machine
        (step (program_of m script) config) index comes hosts new_playing same_machine same_functions same_hosts begins)
