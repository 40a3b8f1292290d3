use Rattle.hook_insert.proofs.Accesses.{on_ok}
use Rattle.hook_insert.proofs.AddedLocals.{appended}
use Rattle.hook_insert.proofs.locals.push_own.Goals as goal

pub returns-in_ok-extend_from_slice-in-Some : goal.returns-in_ok-extend_from_slice-in-Some
returns-in_ok-extend_from_slice-in-Some c =
    on_ok c.push_last.result
    (appended c.args.runs.now.items c.extend_from_slice.new.self.items c.push_last.new.runs.items c.in-Some.before.now
    c.args.own.now c.in-Some.last.now c.in-Some.ensures.cases.0 c.in_ok-extend_from_slice-in-Some.ensures.items)
    c.push_last.ensures
