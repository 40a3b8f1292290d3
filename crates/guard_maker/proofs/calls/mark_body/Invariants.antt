use Rattle.std.proofs.Common.{take, filter_map}
use Rattle.module_index.specs.Marks.{MarksMore}
use Rattle.guarded_module_spec.specs.GuardedModules.{called_func}
use Rattle.guard_maker.proofs.calls.mark_body.Given as goal

abbrev pub invariant-instrs : goal.invariant-instrs
invariant-instrs l = MarksMore l.initial.marks.items l.marks.items (filter_map called_func (take l.instr-index l.body))
