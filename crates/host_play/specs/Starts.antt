-- The start of a run.
use Rattle.std.specs.Prelude.{◌≡◌, ℕ, ◌≤◌, [], Option, Some, None, Bool, true, false, nat_lt}
use Rattle.wasm_syntax.specs.declared.modules.Module.{Module}
use Rattle.wasm_syntax.specs.Validity.{IsValid}
use Rattle.wasm_syntax.specs.Profile.{IsSupported}
use Rattle.host_script.specs.declared.scripts.Script.{Script}
use Rattle.host_script.specs.Fits.{Fits}
use Rattle.history_spec.specs.Store.{Store}
use Rattle.history_spec.specs.Run.{start_in_store}
use Rattle.host_actions.specs.declared.calls.Functions.{Functions}
use Rattle.type_safety.specs.Stores.{IsStore}
use Rattle.wasm_flat.specs.declared.code.Flat.{Flat}
use Rattle.wasm_flat.specs.Bounds.{IsBound}
use Rattle.wasm_flat.specs.FlatCode.{flat_of}
use Rattle.wasm_interp.specs.Calls.{InvokesRun, IsCallable}
use Rattle.wasm_interp.specs.State.{IsAtHost}
use Rattle.host_play.specs.declared.host_steps.HostStep.{HostStep}
use Rattle.host_play.specs.declared.host_steps.HostStep.TheVariants as host_step
use Rattle.host_play.specs.declared.play_state.PlayState.{PlayState}
use Rattle.host_play.specs.declared.script_runs.Play.{Play}
use Rattle.host_play.specs.HostSteps.{entries_of, stand_after}
use Rattle.host_play.specs.Stands.{Leads}

-- what the run of a module under a script requires of its flat code and of the store that it starts with
pub record CanBegin (play : Play) (script : Script) : Type 0 where
  pub valid : IsValid play.code.now
  pub supported : IsSupported play.code.now
  pub flat : play.flat ≡ flat_of play.code.now
  pub bound : IsBound play.flat
  pub store : IsStore play.code.now play.store
  pub fits : Fits play.code.now script

-- a start function that the module defines can be called
abbrev pub CanStart : PlayState → Option ℕ → Type 0
CanStart playing None = Unit {0}
CanStart playing (Some func) =
    playing.functions.imported ≤ func
    → IsAtHost playing.machine.flat playing.machine.frames × IsCallable playing.machine.flat func []

-- the start function was called
pub record CallsStart (func : ℕ) (old : PlayState) (did : HostStep) (new : PlayState) : Type 0 where
  pub calls : did ≡ host_step.Calls func []
  pub machine : InvokesRun old.machine func [] new.machine
  pub rest : new ≡ record old { machine = new.machine }

-- control is with the host, and nothing is done yet
pub record AtWork (old : PlayState) (did : HostStep) (new : PlayState) : Type 0 where
  pub stays : did ≡ host_step.Stays
  pub same_playing : new ≡ old

abbrev pub StartsBy : (imported : Bool) → (func : ℕ) → PlayState → HostStep → PlayState → Type 0
StartsBy true func old did new = AtWork old did new
StartsBy false func old did new = CallsStart func old did new

abbrev pub Starts : Option ℕ → PlayState → HostStep → PlayState → Type 0
Starts None old did new = AtWork old did new
Starts (Some func) old did new = StartsBy (nat_lt func old.functions.imported) func old did new

-- the functions that flat code declares
abbrev pub functions_in : Flat → Functions
functions_in flat = record { types = flat.types; indices = flat.indices; imported = flat.imported }

-- the run of a module under a script, from the store that it starts with, goes on after the host's first step
abbrev pub LeadsFirst : Module → Script → Store → HostStep → PlayState → Type 0
LeadsFirst m script store did playing =
    Leads m script (start_in_store m script store) (entries_of did) (stand_after did) playing
