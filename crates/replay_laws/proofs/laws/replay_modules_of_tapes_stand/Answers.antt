use Rattle.wasm_syntax.specs.Index.{imported_funcs}
use Rattle.replay_module_spec.specs.Plans.{plan_of}
use Rattle.replay_module_laws.proofs.FittingPlans.{left_length}
use Rattle.replay_laws.proofs.laws.replay_modules_of_tapes_stand.Goals as goal

pub returns : goal.returns
returns c = λ m supply tape valid.
    let all = left_length (imported_funcs m) tape.segments in
    record {
      originals = c.replay_modules_stand.ensures.originals m supply (plan_of (imported_funcs m) tape) valid all;
      alone = c.replay_modules_stand.ensures.alone m supply (plan_of (imported_funcs m) tape) valid all;
    }
