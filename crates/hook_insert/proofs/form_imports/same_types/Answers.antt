use Rattle.std.proofs.Common.{arith, sym, ◌∙◌}
use Rattle.hook_insert.proofs.SameTypes.{no_more, of_other_length, one_more}
use Rattle.hook_insert.proofs.form_imports.same_types.Goals as goal

pub returns-then-types-others : goal.returns-then-types-others
returns-then-types-others c = of_other_length c.args.types.now c.args.others.now c.if-types-others.true

pub returns-then-not-same_type : goal.returns-then-not-same_type
returns-then-not-same_type c =
    sym (one_more c.args.types.now c.args.others.now c.places.place _ (omega arith) (omega arith)
    (sym c.if-not-same_type.true ∙ c.same_type.ensures))
    ∙ c.places.invariant

pub places-preserved : goal.places-preserved
places-preserved c =
    sym (one_more c.args.types.now c.args.others.now c.places.place _ (omega arith) (omega arith)
    (sym c.if-not-same_type.false ∙ c.same_type.ensures))
    ∙ c.places.invariant

pub returns : goal.returns
returns c =
    sym (no_more c.args.types.now c.args.others.now c.places.place (omega arith) (omega arith)) ∙ c.places.invariant
