-- The position of a machine in a run of a module whose host makes single calls.
use Rattle.std.specs.Prelude.{◌≡◌, ℕ, List, [], ◌∷◌, Option, Some, None}
use Rattle.wasm_syntax.specs.declared.values.Val.{Val}
use Rattle.wasm_syntax.specs.declared.signatures.FuncType.{FuncType}
use Rattle.wasm_syntax.specs.declared.modules.Module.{Module}
use Rattle.host_script.specs.declared.scripts.Action.{Action}
use Rattle.host_script.specs.declared.scripts.ResponseEnd.{ResponseEnd}
use Rattle.host_script.specs.Fits.{FitActions, FitsEnd}
use Rattle.history_spec.specs.Code.{code_of, signature}
use Rattle.history_spec.specs.Configuration.{Activation, Frame, InMain, InImport, InModule}
use Rattle.history_spec.specs.Step.{Program}
use Rattle.type_safety.specs.Configurations.{IsGoing}
use Rattle.type_safety.specs.Heights.{Heights}
use Rattle.type_safety.specs.Stores.{func_count}
use Rattle.type_safety.specs.Values.{AreValues}
use Rattle.flat_steps.specs.Follows.{outside_of}
use Rattle.wasm_interp.specs.declared.machine.Pause.{Pause}
use Rattle.wasm_interp.specs.declared.machine.Pause.TheVariants as pause
use Rattle.wasm_interp.specs.Calls.{IsRun}
use Rattle.wasm_interp.specs.State.{State, StandsFor}

-- the host at its own work, which has nothing more to do by itself
abbrev pub host : List Activation
host = InMain [] ∷ []

-- a run of the module, with its heights, its answers and its counts of calls
pub record SomeRun (m : Module) : Type 0 where
  pub heights : Heights
  pub program : Program
  pub counts : List ℕ
  pub is_run : IsRun m heights program counts

-- the host has control, and no function of the module is under way
pub record IsIdle (m : Module) (machine : State) : Type 0 where
  pub run : SomeRun m
  pub stands : StandsFor m run.heights host machine

-- the module has control, in a call by the host
pub record IsRunning (m : Module) (machine : State) : Type 0 where
  pub run : SomeRun m
  pub frame : Frame
  pub below : List Activation
  pub stands : StandsFor m run.heights (InModule frame ∷ below) machine
  pub called : outside_of below ≡ host

-- the module calls an import, and awaits an answer of its type
pub record IsCalling (m : Module) (index : ℕ) (machine : State) : Type 0 where
  pub run : SomeRun m
  pub frame : Frame
  pub below : List Activation
  pub ty : FuncType
  pub args : List Val
  pub has_type : signature (code_of m) index ≡ Some ty
  pub values : AreValues (func_count m) ty.params args
  pub stands : (actions : List Action) («end» : ResponseEnd) → FitActions m ty.params actions → FitsEnd ty.results «end»
      → StandsFor m run.heights (InImport index args actions «end» ∷ InModule frame ∷ below) machine
  pub called : outside_of below ≡ host

-- the position of the machine at a pause
abbrev pub IsPaused : Module → Pause → State → Type 0
IsPaused m (pause.Import index) machine = IsCalling m index machine
IsPaused m pause.Returned machine = IsIdle m machine
IsPaused m pause.Trapped machine = Unit {0}
IsPaused m pause.Spent machine = IsRunning m machine

-- the machine is at an instruction, and no return is due
pub record IsStanding (m : Module) (machine : State) : Type 0 where
  pub running : IsRunning m machine
  pub going : IsGoing running.frame.at.rest

-- the position of the machine after a part of the run that ends with or without a pause
abbrev pub ComesBy : Module → Option Pause → State → Type 0
ComesBy m None machine = IsStanding m machine
ComesBy m (Some «end») machine = IsPaused m «end» machine
