-- The laws of type safety (Core 1.0, appendix 7.5), one statement each.
use Rattle.std.specs.Prelude.{◌≡◌, ◌≢◌, ℕ, ◌+◌, ◌≤◌, List, [], ◌∷◌, length, replicate, Some, Ok}
use Rattle.wasm_syntax.specs.declared.values.Val.{Val}
use Rattle.wasm_syntax.specs.declared.values.ValType.{ValType}
use Rattle.wasm_syntax.specs.declared.signatures.FuncType.{FuncType}
use Rattle.wasm_syntax.specs.declared.modules.Module.{Module}
use Rattle.wasm_syntax.specs.Index.{func_type, imported_funcs}
use Rattle.wasm_syntax.specs.Profile.{IsSupported}
use Rattle.wasm_syntax.specs.Validity.{IsValid}
use Rattle.host_script.specs.declared.scripts.Action.{Action}
use Rattle.host_script.specs.declared.scripts.Script.{Script}
use Rattle.host_script.specs.declared.scripts.Supply.{Supply}
use Rattle.host_script.specs.Fits.{FitActions, FitsAction, Fits}
use Rattle.host_script.specs.Supply.{supply_of}
use Rattle.history_spec.specs.Action.{perform}
use Rattle.history_spec.specs.Code.{Definition, code_of, signature}
use Rattle.history_spec.specs.Configuration.{Activation, Config, Frame, InModule}
use Rattle.history_spec.specs.Instantiation.{instantiate}
use Rattle.history_spec.specs.Instruction.{execute}
use Rattle.history_spec.specs.Replay.{alone, run_start_alone, program_alone}
use Rattle.history_spec.specs.Run.{Meter, run_start, program_of, run_from}
use Rattle.history_spec.specs.Settle.{deliver}
use Rattle.history_spec.specs.Step.{Program, StepResult, Stuck, after_settling, enter_function, start, step}
use Rattle.history_spec.specs.Store.{Store}
use Rattle.type_safety.specs.Configurations.{Accept, IsConfig, IsGoing, IsProgram, IsSafe, IsTypedCode, scope}
use Rattle.type_safety.specs.Results.{HasRule, IsActionResult}
use Rattle.type_safety.specs.Frames.{IsFrame, height_of}
use Rattle.type_safety.specs.Heights.{AreHeights, Heights}
use Rattle.type_safety.specs.Stores.{IsStore, func_count}
use Rattle.type_safety.specs.Supplies.{IsRunnable, IsSupply}
use Rattle.type_safety.specs.Values.{AreValues}

-- ---- code

-- the typings of a valid module's functions give heights
abbrev pub ValidCodeHasHeights : Type 0
ValidCodeHasHeights = (m : Module) → IsValid m → (heights : Heights) × AreHeights m heights

-- the code of a valid module is typed with any heights of its functions' typings
abbrev pub ValidCodeIsTyped : Type 0
ValidCodeIsTyped =
    (m : Module) (heights : Heights) → IsValid m → IsSupported m → AreHeights m heights → IsTypedCode m heights

-- ---- stores

-- the supply of a script that fits, if it links, matches the imports
abbrev pub SuppliesMatch : Type 0
SuppliesMatch =
    (m : Module) (script : Script) (supply : Supply)
    → Fits m script → supply_of m script ≡ Ok supply → IsSupply m supply

-- the empty supply matches a module without imports
abbrev pub NothingMatchesNoImports : Type 0
NothingMatchesNoImports = (m : Module) → m.imports ≡ [] → IsSupply m alone

-- the store of a newly instantiated module is well typed
abbrev pub NewStoresAreTyped : Type 0
NewStoresAreTyped =
    (m : Module) (supply : Supply) (store : Store)
    → IsRunnable m → IsSupply m supply → instantiate m supply ≡ Ok store → IsStore m store

-- ---- one step

-- the next instruction of a well-typed activation has a rule, and its result is well typed
abbrev pub InstructionsHaveRules : Type 0
InstructionsHaveRules =
    (m : Module) (heights : Heights) (store : Store) (frame : Frame) (ty : FuncType) (body : Definition)
    → IsValid m → IsTypedCode m heights → IsStore m store → IsFrame (scope m heights frame.func ty body) [] frame
    → IsGoing frame.at.rest
    → HasRule (scope m heights frame.func ty body) (execute (code_of m) store frame)

-- an action of the host that fits succeeds or fails for a named cause, and its result is well typed
abbrev pub FittingActionsHaveResults : Type 0
FittingActionsHaveResults =
    (m : Module) (heights : Heights) (store : Store) (params : List ValType) (args : List Val) (action : Action)
    → IsTypedCode m heights → IsStore m store → AreValues (func_count m) params args → FitsAction m params action
    → IsActionResult m (perform (code_of m) store args action)

-- the start of a run is safe
abbrev pub StartsAreSafe : Type 0
StartsAreSafe =
    (m : Module) (heights : Heights) (program : Program) (store : Store) (main : List Action)
    → IsValid m → IsTypedCode m heights → IsProgram m program → IsStore m store → FitActions m [] main
    → IsSafe m heights (start program m.start store (replicate (imported_funcs m) 0) main).next

-- a call of a defined function with arguments of its types is safe
abbrev pub CallsAreSafe : Type 0
CallsAreSafe =
    (m : Module) (heights : Heights) (store : Store) (counts : List ℕ)
    (func : ℕ) (ty : FuncType) (args : List Val) (stack : List Activation)
    → IsTypedCode m heights → IsStore m store → length counts ≡ imported_funcs m
    → imported_funcs m ≤ func → signature (code_of m) func ≡ Some ty → AreValues (func_count m) ty.params args
    → Accept m heights stack ty.results
    → IsSafe m heights (enter_function (code_of m) store counts func args stack).next

-- a delivery of results to activations that await them is safe
abbrev pub ResultsAreSafe : Type 0
ResultsAreSafe =
    (m : Module) (heights : Heights) (store : Store) (counts : List ℕ)
    (stack : List Activation) (types : List ValType) (results : List Val)
    → IsTypedCode m heights → IsStore m store → length counts ≡ imported_funcs m
    → Accept m heights stack types → AreValues (func_count m) types results
    → IsSafe m heights (after_settling store counts (deliver stack results)).next

-- a step of a well-typed configuration is safe
abbrev pub StepsAreSafe : Type 0
StepsAreSafe =
    (m : Module) (heights : Heights) (program : Program) (config : Config)
    → IsValid m → IsTypedCode m heights → IsProgram m program → IsConfig m heights config
    → IsSafe m heights (step program config).next

-- ---- whole runs

-- each configuration that a run of a module under a script that fits it reaches is well typed
abbrev pub RunsAreSafe : Type 0
RunsAreSafe =
    (m : Module) (heights : Heights) (script : Script) (initial : StepResult)
    → IsRunnable m → IsTypedCode m heights → Fits m script → run_start m script ≡ Ok initial
    → (meter : Meter) (count : ℕ) → IsSafe m heights (run_from (program_of m script) meter initial count).at

-- each configuration that a run of a module without imports reaches is well typed, if it calls a function without
-- parameters
abbrev pub RunsAloneAreSafe : Type 0
RunsAloneAreSafe =
    (m : Module) (heights : Heights) (entry : ℕ) (ty : FuncType) (initial : StepResult)
    → IsRunnable m → IsTypedCode m heights → m.imports ≡ [] → func_type m entry ≡ Some ty → ty.params ≡ []
    → run_start_alone m entry ≡ Ok initial
    → (meter : Meter) (count : ℕ) → IsSafe m heights (run_from (program_alone m) meter initial count).at

-- a run of a module under a script that fits it is never stuck
abbrev pub RunsAreNeverStuck : Type 0
RunsAreNeverStuck =
    (m : Module) (script : Script) (initial : StepResult)
    → IsRunnable m → Fits m script → run_start m script ≡ Ok initial
    → (meter : Meter) (count : ℕ) → (run_from (program_of m script) meter initial count).at ≢ Stuck

-- a run of a module without imports, which calls a function without parameters, is never stuck
abbrev pub RunsAloneAreNeverStuck : Type 0
RunsAloneAreNeverStuck =
    (m : Module) (entry : ℕ) (ty : FuncType) (initial : StepResult)
    → IsRunnable m → m.imports ≡ [] → func_type m entry ≡ Some ty → ty.params ≡ []
    → run_start_alone m entry ≡ Ok initial
    → (meter : Meter) (count : ℕ) → (run_from (program_alone m) meter initial count).at ≢ Stuck

-- ---- heights

-- before an instruction that control reaches, the number of values above the base is the height by the typing
abbrev pub HeightsAtSteps : Type 0
HeightsAtSteps =
    (m : Module) (heights : Heights) (config : Config) (frame : Frame) (below : List Activation)
    → IsConfig m heights config → config.stack ≡ InModule frame ∷ below
    → height_of frame ≡ heights frame.func frame.at.number

-- in an activation that waits for the results of a call, the number of values above the base, with these results, is
-- the height by the typing
abbrev pub HeightsAtCalls : Type 0
HeightsAtCalls =
    (m : Module) (heights : Heights) (frame : Frame) (below : List Activation) (results : List ValType)
    → Accept m heights (InModule frame ∷ below) results → IsGoing frame.at.rest
    → height_of frame + length results ≡ heights frame.func frame.at.number
