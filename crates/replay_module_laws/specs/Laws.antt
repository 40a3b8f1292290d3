-- The laws of a replay module as a module.
use Rattle.std.specs.Prelude.{◌≡◌, ◌^◌, ◌<◌, ◌≤◌, length, All, Option, Some, None, IfSome}
use Rattle.wasm_syntax.specs.declared.signatures.Limits.{Limits}
use Rattle.wasm_syntax.specs.declared.modules.Module.{Module}
use Rattle.wasm_syntax.specs.Index.{imported_funcs}
use Rattle.wasm_syntax.specs.Validity.{IsTypedFunc, IsValid, IsValidOutside}
use Rattle.host_script.specs.declared.scripts.Supply.{Supply}
use Rattle.type_safety.specs.Supplies.{IsSupply}
use Rattle.replay_form.specs.Forms.{IsReplayable}
use Rattle.trace_model.specs.declared.tapes.Tape.{Tape}
use Rattle.trace_model.specs.Fitting.{IsFitting}
use Rattle.replay_module_spec.specs.declared.plans.Plan.{Plan}
use Rattle.replay_module_spec.specs.declared.fragments.Fragment.{Fragment}
use Rattle.replay_module_spec.specs.Fits.{FitsModule}
use Rattle.replay_module_spec.specs.Plans.{plan_of}
use Rattle.replay_module_spec.specs.Fragments.{fragment_of, start_index}
use Rattle.replay_module_spec.specs.Merge.{layout_of, replay_module}
use Rattle.replay_module_laws.specs.Plans.{PlanFits}
use Rattle.replay_module_laws.specs.Standing.{KeepsOriginals, StandsAlone}
use Rattle.replay_module_laws.specs.Written.{IsConstantTape}

-- the replay module of a plan for a valid module, with calls for each import, keeps the types and functions of the
-- original at their indices
abbrev pub ReplayModulesKeepOriginals : Type 0
ReplayModulesKeepOriginals =
    (m : Module) (supply : Supply) (plan : Plan) → IsValid m → length plan.imports ≡ imported_funcs m
    → KeepsOriginals m (replay_module m supply (fragment_of m plan))

-- the replay module imports nothing, has no start function, and exports one function, without parameters and results
abbrev pub ReplayModulesStandAlone : Type 0
ReplayModulesStandAlone =
    (m : Module) (supply : Supply) (plan : Plan) → IsValid m → length plan.imports ≡ imported_funcs m
    → StandsAlone m (replay_module m supply (fragment_of m plan))

-- if the replay module has at most as many functions as there are indices, it declares the number of functions that
-- the original imports and defines, in addition to its export
abbrev pub ReplayModulesAreReplayable : Type 0
ReplayModulesAreReplayable =
    (m : Module) (supply : Supply) (plan : Plan) → IsValid m → length plan.imports ≡ imported_funcs m
    → start_index m < 2 ^ 32
    → IsReplayable (replay_module m supply (fragment_of m plan)) (layout_of m) (start_index m)

-- the maximum of a supplied table, if it has one, is one that a module may declare (Core 1.0, 3.2.3)
abbrev pub StatesMaximum : Option Limits → Type 0
StatesMaximum None = Unit {0}
StatesMaximum (Some limits) = IfSome limits.max (λ max. max ≤ 2 ^ 32)

-- with a supply that matches the imports, the replay module is valid but for the bodies of its functions
abbrev pub ReplayModulesAreValidOutside : Type 0
ReplayModulesAreValidOutside =
    (m : Module) (supply : Supply) (plan : Plan) → IsValid m → IsSupply m supply → StatesMaximum supply.table
    → length plan.imports ≡ imported_funcs m
    → IsValidOutside (replay_module m supply (fragment_of m plan))

-- the original's functions have typings in the replay module
abbrev pub OriginalsAreTyped : Type 0
OriginalsAreTyped =
    (m : Module) (supply : Supply) (plan : Plan) → IsValid m → IsSupply m supply
    → length plan.imports ≡ imported_funcs m
    → All (IsTypedFunc (replay_module m supply (fragment_of m plan))) m.funcs

-- the replay module of a plan that fits the module is valid
abbrev pub ReplayModulesAreValid : Type 0
ReplayModulesAreValid =
    (m : Module) (supply : Supply) (plan : Plan) → IsValid m → IsSupply m supply → StatesMaximum supply.table
    → length plan.imports ≡ imported_funcs m → PlanFits m plan
    → IsValid (replay_module m supply (fragment_of m plan))

-- the plan of a tape that fits a module, and whose values are constants, fits the module
abbrev pub PlansFit : Type 0
PlansFit =
    (m : Module) (tape : Tape) → IsValid m → IsFitting m tape → IsConstantTape tape
    → PlanFits m (plan_of (imported_funcs m) tape)

-- the replay module of a tape that fits the module, and whose values are constants, is valid
abbrev pub ReplayModulesOfTapesAreValid : Type 0
ReplayModulesOfTapesAreValid =
    (m : Module) (supply : Supply) (tape : Tape) → IsValid m → IsSupply m supply → StatesMaximum supply.table
    → IsFitting m tape → IsConstantTape tape
    → IsValid (replay_module m supply (fragment_of m (plan_of (imported_funcs m) tape)))

-- ---- any generated part

-- the replay module of any generated part that fits a valid module keeps the types and functions of the original at
-- their indices
abbrev pub ReplayModulesOfFragmentsKeepOriginals : Type 0
ReplayModulesOfFragmentsKeepOriginals =
    (m : Module) (supply : Supply) (fragment : Fragment) → IsValid m → IsSupply m supply → FitsModule m fragment
    → KeepsOriginals m (replay_module m supply fragment)

-- with each supply that matches the imports, the replay module of any generated part that fits a valid module is valid
abbrev pub ReplayModulesOfFragmentsAreValid : Type 0
ReplayModulesOfFragmentsAreValid =
    (m : Module) (supply : Supply) (fragment : Fragment) → IsValid m → IsSupply m supply → StatesMaximum supply.table
    → FitsModule m fragment → IsValid (replay_module m supply fragment)
