use Rattle.std.proofs.Common.{◌<◌, ◌≤◌, length, map, sym, ◌∙◌, arith}
use Rattle.std.proofs.lemmas.List.{length-map}
use Rattle.script_text.proofs.Checks.{other_length, same_fails, same_goes_on, same_ends}
use Rattle.script_text.proofs.types.are_of_types.Goals as goal

pub returns-then-values-types : goal.returns-then-values-types
returns-then-values-types c =
    sym (other_length (map (λ value. value.ty) c.args.values.now) c.args.types.now
    (λ e. c.if-values-types.true (sym (length-map c.args.values.now (λ value. value.ty)) ∙ e)))

pub returns-then-not-is_type : goal.returns-then-not-is_type
returns-then-not-is_type c =
    let lt' : c.values.index < length c.args.types.now = omega arith in
    sym (c.values.invariant ∙ same_fails c.args.values.now c.args.types.now c.values.index _ _ c.values-test.true lt'
    (sym c.is_type.ensures ∙ c.if-not-is_type.true))

pub values-preserved : goal.values-preserved
values-preserved c =
    let lt' : c.values.index < length c.args.types.now = omega arith in
    c.values.invariant ∙ same_goes_on c.args.values.now c.args.types.now c.values.index _ _ c.values-test.true lt'
    (sym c.is_type.ensures ∙ c.if-not-is_type.false)

pub returns : goal.returns
returns c =
    let le : length c.args.types.now ≤ c.values.index = omega arith in
    sym (c.values.invariant ∙ same_ends c.args.values.now c.args.types.now c.values.index c.values-test.false le)
