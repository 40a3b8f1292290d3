use Rattle.std.proofs.Common.{[], ◌++◌, sym, subst}
use Rattle.std.specs.List.{cons_option}
use Rattle.wasm_syntax.specs.declared.instructions.Instr.{Instr}
use Rattle.module_index.specs.Marks.{AreMarks}
use Rattle.guarded_module_spec.specs.GuardedModules.{called_func}
use Rattle.guard_maker.proofs.calls.mark_instr.Goals as goal

pub returns-in-Call : goal.returns-in-Call
returns-in-Call c = λ count done h.
    subst (λ (i : Instr). AreMarks c.mark.new.marks.items count (done ++ cons_option (called_func i) [])) (sym c.in-Call.is)
    (c.mark.ensures count done h)
