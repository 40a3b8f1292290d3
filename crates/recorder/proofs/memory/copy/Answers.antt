use Rattle.std.proofs.Common.{sym}
use Rattle.recorder.proofs.Arms.{on_ok}
use Rattle.recorder.proofs.Within.{copy_all}
use Rattle.recorder.proofs.memory.copy.Goals as goal

pub returns-clause-reports : goal.returns-clause-reports
returns-clause-reports g c =
    on_ok c.copy_bytes.result
    (copy_all g.S.EventSink.has_taken c.args.view.now c.args.memory.now c.reach.new.memory c.reach-2.new.memory c.copy_bytes.new.memory
    c.args.sink.now c.reach.new.sink c.reach-2.new.sink c.copy_bytes.new.sink c.args.reported.0 c.args.reported.1 c.args.reported.2
    c.end_of.result c.end_of-2.result c.pages.result c.pages-2.result c.bytes.result.now
    (sym c.if-not-has_memory.ensures) c.end_of.ensures c.end_of-2.ensures c.pages.ensures c.pages-2.ensures
    c.bytes.ensures.bytes c.in_ok-reach.ensures.reports c.in_ok-reach-2.ensures.reports)
    c.copy_bytes.ensures.reports
