use Rattle.std.proofs.Common.{sym, ap, ◌∙◌}
use Rattle.script_text.specs.Actions.{takes_i32}
use Rattle.script_text.proofs.Checks.{all_fails, all_goes_on, all_ends}
use Rattle.script_text.proofs.common_types.all_take_i32.Goals as goal

pub returns-then-not-takes_i32 : goal.returns-then-not-takes_i32
returns-then-not-takes_i32 c =
    let n = c.args.number in
    sym (c.types.invariant ∙ all_fails (takes_i32 n) c.args.types.now c.types.ty-index c.ty-item.result c.types-test.true
    (ap (λ x. takes_i32 n x.now) (sym c.ty-item.is) ∙ sym c.takes_i32.ensures ∙ c.if-not-takes_i32.true))

pub types-preserved : goal.types-preserved
types-preserved c =
    let n = c.args.number in
    c.types.invariant ∙ all_goes_on (takes_i32 n) c.args.types.now c.types.ty-index c.ty-item.result c.types-test.true
    (ap (λ x. takes_i32 n x.now) (sym c.ty-item.is) ∙ sym c.takes_i32.ensures ∙ c.if-not-takes_i32.false)

pub returns : goal.returns
returns c = sym (c.types.invariant ∙ all_ends (takes_i32 c.args.number) c.args.types.now c.types.ty-index c.types-test.false)
