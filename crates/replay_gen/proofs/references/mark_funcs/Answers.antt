use Rattle.std.proofs.Common.{◌∙◌, ap, ◌++◌, take, subst, filter_map}
use Rattle.std.proofs.lemmas.List.{take_all}
use Rattle.module_index.specs.Marks.{AreMarks}
use Rattle.replay_module_spec.specs.Fragments.{referred_func, referred_funcs}
use Rattle.replay_gen.proofs.Marks.{func_more}
use Rattle.replay_gen.proofs.references.mark_funcs.Goals as goal

pub funcs-preserved : goal.funcs-preserved
funcs-preserved c = λ count done h.
    let before = done ++ referred_funcs (take c.funcs.func-index c.args.funcs.now) in
    subst (AreMarks c.mark_body.new.marks.items count)
    (ap (λ l. before ++ filter_map referred_func l) c.as_slice.ensures
    ∙ func_more done c.args.funcs.now c.funcs.func-index c.func-item.result c.funcs-test.true c.func-item.is)
    (c.mark_body.ensures count before (c.funcs.invariant count done h))

pub returns : goal.returns
returns c = λ count done h.
    subst (λ l. AreMarks c.funcs.marks.items count (done ++ referred_funcs l))
    (take_all c.funcs.func-index c.args.funcs.now c.funcs-test.false) (c.funcs.invariant count done h)
