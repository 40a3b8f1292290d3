use Rattle.std.proofs.Common.{◌≡◌, ◌++◌, length, replicate, ap, ◌∙◌, arith}
use Rattle.hook_insert.proofs.Weightless.{weightless_are}
use Rattle.hook_insert.proofs.bodies.push_zeros.Goals as goal

pub returns : goal.returns
returns c is same =
    let all : c.loop.counter ≡ length is = omega (arith, c.loop-test.false, c.loop.auto.counter-end, same) in
    c.loop.invariant ∙ ap (λ count. c.args.weights.now.items ++ replicate count 0) all
    ∙ ap (λ weights. c.args.weights.now.items ++ weights) (weightless_are is)
