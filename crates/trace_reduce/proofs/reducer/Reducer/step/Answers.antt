use Rattle.std.proofs.Common.{rules, ◌≡◌, false, not}
use Rattle.trace_reduce.proofs.Taken.{event_taken, takes_some}
use Rattle.trace_reduce.proofs.reducer.Reducer.step.Goals as goal

pub returns-clause-takes : goal.returns-clause-takes
returns-clause-takes c =
    let holds : not c.in_ok-step.field-0 ≡ false = search rules in
    event_taken c.args.self.now c.step.new.self c.saturating_add-self.result c.report.new.self c.args.event
    c.report.result c.saturating_add-self.ensures
    (takes_some c.in_ok-step.field-0 c.step.new.self _ c.in_ok-step.ensures.ok holds) c.report.ensures.imports
    c.report.ensures.reports
