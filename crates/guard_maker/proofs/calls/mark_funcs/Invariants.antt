use Rattle.std.proofs.Common.{take}
use Rattle.module_index.specs.Marks.{MarksMore}
use Rattle.guarded_module_spec.specs.GuardedModules.{called_funcs}
use Rattle.guard_maker.proofs.calls.mark_funcs.Given as goal

abbrev pub invariant-funcs : goal.invariant-funcs
invariant-funcs l = MarksMore l.initial.marks.items l.marks.items (called_funcs (take l.func-index l.funcs))
