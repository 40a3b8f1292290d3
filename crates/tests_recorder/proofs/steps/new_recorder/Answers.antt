use Rattle.std.proofs.Common.{arith, ap, length}
use Rattle.wasm_syntax.specs.declared.modules.Module.{Module}
use Rattle.tests_recorder.proofs.Linking.{few}
use Rattle.tests_recorder.proofs.steps.new_recorder.Goals as goal

pub validate-requires : goal.validate-requires
validate-requires c =
    few c.in_ok-module.module c.in_ok-module.ensures
    (omega (arith, ap length c.as_slice.ensures, c.if-as_slice-gt-MAX_FUNCS.false))

pub new-requires-clause-funcs : goal.new-requires-clause-funcs
new-requires-clause-funcs c =
    let same = ap (λ (m : Module). length m.funcs) c.in-Ok.ensures.same in
    omega (arith, same, ap length c.as_slice.ensures, c.if-as_slice-gt-MAX_FUNCS.false)
