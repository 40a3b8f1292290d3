use Rattle.wasm_syntax.specs.Index.{imported_funcs}
use Rattle.wasm_syntax.specs.declared.modules.Module.{Module}
use Rattle.wasm_syntax.specs.Validity.{IsValid}
use Rattle.type_safety.specs.Supplies.{IsSupply}
use Rattle.trace_model.specs.declared.tapes.Tape.{Tape}
use Rattle.trace_model.specs.Fitting.{IsFitting}
use Rattle.replay_module_spec.specs.Plans.{plan_of}
use Rattle.replay_module_spec.specs.Fits.{FitsModule, declared_supply}
use Rattle.replay_module_spec.specs.Fragments.{fragment_of}
use Rattle.replay_module_laws.specs.Laws.{PlansFit, ReplayModulesOfTapesAreValid}
use Rattle.replay_module_laws.specs.Written.{IsConstantTape}
use Rattle.replay_module_laws.proofs.FittingPlans.{left_length}
use Rattle.replay_encoding_laws.proofs.FittingFragments.{declared_states, declared_supplies, fragment_fits, runnable_supplies}
use Rattle.replay_encoding_laws.proofs.fragments.fragments_fit.Goals as goal

part_fits : PlansFit → ReplayModulesOfTapesAreValid → (m : Module) (tape : Tape) → IsValid m
    → IsSupply m (declared_supply m) → IsFitting m tape → IsConstantTape tape
    → FitsModule m (fragment_of m (plan_of (imported_funcs m) tape))
part_fits plans law m tape valid supplied fits constants =
    fragment_fits m (plan_of (imported_funcs m) tape) valid (left_length (imported_funcs m) tape.segments)
    (plans m tape valid fits constants)
    (law m (declared_supply m) tape valid supplied (declared_states m valid) fits constants)

pub returns : goal.returns
returns c = record {
  linked = λ m supply tape valid supplied fits constants.
      part_fits c.replay_modules_of_tapes_are_valid.ensures.plans c.replay_modules_of_tapes_are_valid.ensures.valid m tape
      valid (declared_supplies m supply valid supplied) fits constants;
  runnable = λ m tape valid supported fits constants.
      part_fits c.replay_modules_of_tapes_are_valid.ensures.plans c.replay_modules_of_tapes_are_valid.ensures.valid m tape
      valid (runnable_supplies m valid supported) fits constants;
}
