use Rattle.std.proofs.Common.{get_or, false}
use Rattle.replay_gen.proofs.Marks.{marked_more}
use Rattle.replay_gen.proofs.references.marked_funcs.Goals as goal

pub marks-preserved : goal.marks-preserved
marks-preserved c =
    marked_more (λ func. get_or c.args.marks.now func false) c.marks.func c.marks.funcs.items c.push_marked.new.funcs.items
    c.marks.invariant c.in_ok-push_marked.ensures
