use Rattle.std.proofs.Common.{take}
use Rattle.module_index.specs.Marks.{MarksMore}
use Rattle.module_index.proofs.marks.mark_all.Given as goal

abbrev pub invariant-funcs : goal.invariant-funcs
invariant-funcs l = MarksMore l.initial.marks.items l.marks.items (take l.func-index l.funcs)
