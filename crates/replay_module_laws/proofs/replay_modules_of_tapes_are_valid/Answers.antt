use Rattle.wasm_syntax.specs.Index.{imported_funcs}
use Rattle.replay_module_spec.specs.Plans.{plan_of}
use Rattle.replay_module_laws.proofs.FittingPlans.{left_length, plan_fits}
use Rattle.replay_module_laws.proofs.replay_modules_of_tapes_are_valid.Goals as goal

pub returns : goal.returns
returns c = record {
  plans = λ m tape valid fits constants. plan_fits m valid tape fits constants;
  valid = λ m supply tape valid supplied stated fits constants.
      c.replay_modules_are_valid.ensures.valid m supply (plan_of (imported_funcs m) tape) valid supplied stated
      (left_length (imported_funcs m) tape.segments) (plan_fits m valid tape fits constants);
}
