-- The generated parts of a tape, and the module.
use Rattle.wasm_syntax.specs.declared.modules.Module.{Module}
use Rattle.wasm_syntax.specs.Index.{imported_funcs}
use Rattle.wasm_syntax.specs.Profile.{IsSupported}
use Rattle.wasm_syntax.specs.Validity.{IsValid}
use Rattle.host_script.specs.declared.scripts.Supply.{Supply}
use Rattle.type_safety.specs.Supplies.{IsSupply}
use Rattle.trace_model.specs.declared.tapes.Tape.{Tape}
use Rattle.trace_model.specs.Fitting.{IsFitting}
use Rattle.replay_module_spec.specs.Plans.{plan_of}
use Rattle.replay_module_spec.specs.Fragments.{fragment_of}
use Rattle.replay_module_spec.specs.Fits.{FitsModule}
use Rattle.replay_module_laws.specs.Written.{IsConstantTape}

-- for each module with a supply that matches its imports: the generated parts of a tape that fits the module, and whose
-- values are constants, fit the module
abbrev pub FragmentsFit : Type 0
FragmentsFit =
    (m : Module) (supply : Supply) (tape : Tape) → IsValid m → IsSupply m supply → IsFitting m tape
    → IsConstantTape tape → FitsModule m (fragment_of m (plan_of (imported_funcs m) tape))

-- the same for each module that can be run, without a supply
abbrev pub FragmentsFitRunnable : Type 0
FragmentsFitRunnable =
    (m : Module) (tape : Tape) → IsValid m → IsSupported m → IsFitting m tape → IsConstantTape tape
    → FitsModule m (fragment_of m (plan_of (imported_funcs m) tape))
