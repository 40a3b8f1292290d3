use Rattle.std.proofs.Common.{◌++◌, take, subst, filter_map}
use Rattle.std.proofs.lemmas.List.{take_all}
use Rattle.module_index.specs.Marks.{AreMarks}
use Rattle.guarded_module_spec.specs.GuardedModules.{called_func}
use Rattle.guard_maker.proofs.Called.{instr_more}
use Rattle.guard_maker.proofs.calls.mark_body.Goals as goal

pub instrs-preserved : goal.instrs-preserved
instrs-preserved c = λ count done h.
    let before = done ++ filter_map called_func (take c.instrs.instr-index c.args.body.now) in
    subst (AreMarks c.mark_instr.new.marks.items count)
    (instr_more done c.args.body.now c.instrs.instr-index c.instr-item.result c.instrs-test.true c.instr-item.is)
    (c.mark_instr.ensures count before (c.instrs.invariant count done h))

pub returns : goal.returns
returns c = λ count done h.
    subst (λ l. AreMarks c.instrs.marks.items count (done ++ filter_map called_func l))
    (take_all c.instrs.instr-index c.args.body.now c.instrs-test.false) (c.instrs.invariant count done h)
