use Rattle.std.proofs.Common.{[], ◌++◌, sym, subst}
use Rattle.std.specs.List.{cons_option}
use Rattle.wasm_syntax.specs.declared.instructions.Instr.{Instr}
use Rattle.module_index.specs.Marks.{AreMarks}
use Rattle.replay_module_spec.specs.Fragments.{referred_func}
use Rattle.replay_gen.proofs.references.mark_instr.Goals as goal

pub returns-in-RefFunc : goal.returns-in-RefFunc
returns-in-RefFunc c = λ count done h.
    subst (λ (i : Instr). AreMarks c.mark.new.marks.items count (done ++ cons_option (referred_func i) [])) (sym c.in-RefFunc.is)
    (c.mark.ensures count done h)
