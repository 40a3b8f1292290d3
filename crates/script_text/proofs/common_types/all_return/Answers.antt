use Rattle.std.proofs.Common.{sym, ap, ◌∙◌}
use Rattle.script_text.specs.Texts.{returns as type_returns}
use Rattle.script_text.proofs.Checks.{all_fails, all_goes_on, all_ends}
use Rattle.script_text.proofs.common_types.all_return.Goals as goal

pub returns-then-not-returns : goal.returns-then-not-returns
returns-then-not-returns c =
    let n = c.args.value in
    sym (c.types.invariant ∙ all_fails (type_returns n) c.args.types.now c.types.ty-index c.ty-item.result c.types-test.true
    (ap (λ x. type_returns n x.now) (sym c.ty-item.is) ∙ sym c.returns.ensures ∙ c.if-not-returns.true))

pub types-preserved : goal.types-preserved
types-preserved c =
    let n = c.args.value in
    c.types.invariant ∙ all_goes_on (type_returns n) c.args.types.now c.types.ty-index c.ty-item.result c.types-test.true
    (ap (λ x. type_returns n x.now) (sym c.ty-item.is) ∙ sym c.returns.ensures ∙ c.if-not-returns.false)

pub returns : goal.returns
returns c = sym (c.types.invariant ∙ all_ends (type_returns c.args.value) c.args.types.now c.types.ty-index c.types-test.false)
