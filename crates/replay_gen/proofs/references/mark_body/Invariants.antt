use Rattle.std.proofs.Common.{take, filter_map}
use Rattle.module_index.specs.Marks.{MarksMore}
use Rattle.replay_module_spec.specs.Fragments.{referred_func}
use Rattle.replay_gen.proofs.references.mark_body.Given as goal

abbrev pub invariant-instrs : goal.invariant-instrs
invariant-instrs l = MarksMore l.initial.marks.items l.marks.items (filter_map referred_func (take l.instr-index l.body))
