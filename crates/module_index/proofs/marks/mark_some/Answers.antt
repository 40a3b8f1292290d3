use Rattle.std.proofs.Common.{ℕ, [], ◌++◌, Option, sym, subst}
use Rattle.std.specs.List.{cons_option}
use Rattle.module_index.specs.Marks.{AreMarks}
use Rattle.module_index.proofs.marks.mark_some.Goals as goal

pub returns-in-Some : goal.returns-in-Some
returns-in-Some c = λ count done h.
    subst (λ (o : Option ℕ). AreMarks c.mark.new.marks.items count (done ++ cons_option o [])) (sym c.in-Some.is) (c.mark.ensures count done h)
