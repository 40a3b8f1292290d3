use Rattle.std.proofs.Common.{◌≤◌, ◌∙◌, ap, arith}
use Rattle.wasm_syntax.specs.Index.{imported_funcs}
use Rattle.bench_machine.specs.Arguments.{are_of}
use Rattle.bench_machine.proofs.Arguments.{callable}
use Rattle.bench_machine.proofs.calls.is_callable.Goals as goal

pub returns-in-Some : goal.returns-in-Some
returns-in-Some c =
    let defined : imported_funcs c.args.scope.now ≤ c.args.func = omega (arith, c.imported_funcs.ensures, c.if-func-imported_funcs.false) in
    callable c.args.scope.now c.args.func c.args.args.now c.in-Some.ty.now c.are_of.result defined c.in-Some.ensures
    (c.are_of.ensures ∙ ap (λ types. are_of types c.args.args.now) c.as_slice.ensures)
