use Rattle.std.proofs.Common.{◌++◌, take, subst}
use Rattle.module_index.specs.Marks.{AreMarks}
use Rattle.module_index.proofs.MarkLemmas.{done-more, done-all}
use Rattle.module_index.proofs.marks.mark_all.Goals as goal

pub funcs-preserved : goal.funcs-preserved
funcs-preserved c = λ count done h.
    subst (AreMarks c.mark.new.marks.items count) (done-more done c.args.funcs.now c.funcs.func-index 0 c.funcs-test.true)
    (c.mark.ensures count (done ++ take c.funcs.func-index c.args.funcs.now) (c.funcs.invariant count done h))

pub returns : goal.returns
returns c = λ count done h.
    subst (AreMarks c.funcs.marks.items count) (done-all done c.args.funcs.now c.funcs.func-index c.funcs-test.false) (c.funcs.invariant count done h)
