use Rattle.std.proofs.Common.{take}
use Rattle.module_index.specs.Marks.{MarksMore}
use Rattle.replay_module_spec.specs.Fragments.{referred_funcs}
use Rattle.replay_gen.proofs.references.mark_funcs.Given as goal

abbrev pub invariant-funcs : goal.invariant-funcs
invariant-funcs l = MarksMore l.initial.marks.items l.marks.items (referred_funcs (take l.func-index l.funcs))
