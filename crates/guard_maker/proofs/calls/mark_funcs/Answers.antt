use Rattle.std.proofs.Common.{◌∙◌, ap, ◌++◌, take, subst, filter_map}
use Rattle.std.proofs.lemmas.List.{take_all}
use Rattle.module_index.specs.Marks.{AreMarks}
use Rattle.guarded_module_spec.specs.GuardedModules.{called_func, called_funcs}
use Rattle.guard_maker.proofs.Called.{func_more}
use Rattle.guard_maker.proofs.calls.mark_funcs.Goals as goal

pub funcs-preserved : goal.funcs-preserved
funcs-preserved c = λ count done h.
    let before = done ++ called_funcs (take c.funcs.func-index c.args.funcs.now) in
    subst (AreMarks c.mark_body.new.marks.items count)
    (ap (λ l. before ++ filter_map called_func l) c.as_slice.ensures
    ∙ func_more done c.args.funcs.now c.funcs.func-index c.func-item.result c.funcs-test.true c.func-item.is)
    (c.mark_body.ensures count before (c.funcs.invariant count done h))

pub returns : goal.returns
returns c = λ count done h.
    subst (λ l. AreMarks c.funcs.marks.items count (done ++ called_funcs l))
    (take_all c.funcs.func-index c.args.funcs.now c.funcs-test.false) (c.funcs.invariant count done h)
