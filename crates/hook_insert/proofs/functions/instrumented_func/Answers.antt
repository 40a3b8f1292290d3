use Rattle.std.proofs.Common.{sym, ◌∙◌}
use Rattle.hook_insert.proofs.Accesses.{if_ok_both}
use Rattle.hook_insert.proofs.FlatFunctions.{func_is, weights_are}
use Rattle.hook_insert.proofs.functions.instrumented_func.Goals as goal

pub returns : goal.returns
returns c =
    let m = c.args.scope.now in
    let func = c.args.func.now in
    let ty = c.in-Some.ty.now in
    let is = sym c.in-Some.ensures in
    let read = c.bodies_are_read.ensures in
    let typed = c.requires.insertable.typed in
    if_ok_both c.typed_func.result
    (λ made same weighed. record {
      func = same ∙ func_is read m c.args.index ty func typed is;
      weights = weighed ∙ weights_are read m c.args.index ty func typed is;
    })
    c.typed_func.ensures.func c.typed_func.ensures.weights
