-- How far a run with hooks within a budget of turns has come.
use Rattle.std.specs.Prelude.{◌≡◌, ℕ, ◌+◌, ◌*◌, ◌<◌, ◌≤◌, List, Some, Result, Ok, Err, length, slice_get, ◌⊎◌}
use Rattle.wasm_syntax.specs.declared.values.Val.{Val}
use Rattle.wasm_syntax.specs.declared.modules.Module.{Module}
use Rattle.wasm_syntax.specs.Index.{imported_funcs}
use Rattle.host_script.specs.declared.scripts.Script.{Script}
use Rattle.history_spec.specs.declared.entries.Entry.{Entry}
use Rattle.history_spec.specs.Code.{code_of, signature}
use Rattle.history_spec.specs.Run.{program_of}
use Rattle.history_spec.specs.Step.{StepResult, response_to}
use Rattle.wasm_flat.specs.Meters.{FitsMeter, meter_of}
use Rattle.wasm_interp.specs.Ahead.{ahead}
use Rattle.wasm_interp.specs.Frames.{argument_of}
use Rattle.wasm_interp.specs.State.{IsWaiting, State}
use Rattle.record_replay_spec.specs.declared.hooks.Hook.{Hook}
use Rattle.record_replay_spec.specs.Hooks.{hooks, hook_count, hook_params, hook_type}
use Rattle.hook_names.specs.Steps.{Steps}
use Rattle.host_play.specs.declared.hooked_plays.RunSettings.{RunSettings}
use Rattle.host_play.specs.declared.play_state.PlayState.{PlayState}
use Rattle.host_play.specs.declared.play_state.Stand.{Stand}
use Rattle.host_play.specs.declared.results.PlayFault.{PlayFault}
use Rattle.host_play.specs.HookedResults.{HookedRun, HooksLead, RefusesWithHooks}
use Rattle.host_play.specs.Replies.{nothing_done}
use Rattle.host_play.specs.RunsSoFar.{ComesTo}
use Rattle.host_play.specs.Stands.{StandsAt, rest}

-- ---- hooks

-- after a number of imports a module imports the hooks with their types, and the script answers them by doing nothing
pub record HasHooks (m : Module) (script : Script) (imports : ℕ) : Type 0 where
  pub imported : imported_funcs m ≡ imports + hook_count
  pub has_type : (place : ℕ) (kind : Hook) → slice_get hooks place ≡ Some kind
      → signature (code_of m) (imports + place) ≡ Some (hook_type kind)
  pub answered : (import number : ℕ) → imports ≤ import → import < imported_funcs m
      → response_to script.imports import number ≡ Some nothing_done

-- the machine waits at a call of an import with these arguments
pub record HasArguments (machine : State) (args : List Val) : Type 0 where
  pub waits : IsWaiting machine.flat machine.frames
  pub each : (number : ℕ) → argument_of machine.flat machine.frames machine.slots number ≡ slice_get args number

-- the machine waits at a call with these arguments, as many as a hook takes
abbrev pub AreArguments : State → Hook → List Val → Type 0
AreArguments machine kind args = HasArguments machine args × (length args ≡ length (hook_params kind))

-- an import that is not before the hooks is a hook that takes this number of arguments
pub record CallsHook (imports import : ℕ) (args : List Val) : Type 0 where
  pub there : imports ≤ import → import < imports + hook_count
  pub count : (place : ℕ) (kind : Hook) → slice_get hooks place ≡ Some kind → import ≡ imports + place
      → length args ≡ length (hook_params kind)

abbrev pub AwaitsCall : State → (imports import : ℕ) → List Val → Type 0
AwaitsCall machine imports import args = HasArguments machine args × CallsHook imports import args

-- ---- runs

-- the run of a module under a script, as one with hooks
abbrev pub run_in : Module → Script → RunSettings → StepResult → HookedRun
run_in m script settings initial =
    record {
      imports = settings.imports;
      program = program_of m script;
      meter = meter_of m settings.meter.now;
      initial = initial;
      budget = settings.turns;
    }

-- what a run with hooks requires
pub record CanPlay (m : Module) (script : Script) (settings : RunSettings) : Type 0 where
  pub fits : FitsMeter m settings.meter.now
  pub hooks : HasHooks m script settings.imports

-- the run has come to this point, and the hooks took its calls so far
pub record HooksSoFar {H : Type 0} (is_step : Steps H) (m : Module) (script : Script) (settings : RunSettings)
    (initial : StepResult) (begun now : H) (stand : Stand) (playing : PlayState) (left : ℕ) : Type 0 where
  pub can_play : CanPlay m script settings
  pub history : List Entry
  pub reached : ComesTo m script settings.meter.now initial settings.turns history stand playing left
  pub printed : HooksLead is_step (run_in m script settings initial) reached.steps begun (Ok tt) now

abbrev pub HooksOn : {H : Type 0} → Steps H → Module → Script → RunSettings → StepResult → (begun now : H)
    → Result Stand PlayFault → PlayState → (left : ℕ) → Type 0
HooksOn is_step m script settings initial begun now (Ok stand) playing left =
    HooksSoFar is_step m script settings initial begun now stand playing left
HooksOn is_step m script settings initial begun now (Err fault) playing left =
    RefusesWithHooks is_step (run_in m script settings initial) fault begun now

-- some run with hooks is at this point
abbrev pub IsHooked : Script → RunSettings → Stand → PlayState → Type 0
IsHooked script settings stand playing =
    (m : Module) × (s : StepResult) × StandsAt m script stand playing s × CanPlay m script settings

-- ---- how much a run has left to do

-- what is left to do without a turn: the code that activations have ahead of them, and the host's activations
abbrev pub free : Stand → PlayState → ℕ
free stand playing = 2 * ahead playing.machine.flat playing.machine.frames + rest stand playing

-- there are fewer turns, or as many and less to do without one
abbrev pub IsLess : (before : ℕ) → Stand → PlayState → (after : ℕ) → Stand → PlayState → Type 0
IsLess before stand playing after next later =
    (after < before) ⊎ ((after ≡ before) × (free next later < free stand playing))
