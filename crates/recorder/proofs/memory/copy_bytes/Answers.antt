use Rattle.std.proofs.Common.{sym, ap, ◌∙◌}
use Rattle.history_spec.specs.Store.{bytes_at}
use Rattle.recorder.proofs.Arms.{on_ok}
use Rattle.recorder.proofs.Within.{copies_there}
use Rattle.recorder.proofs.memory.copy_bytes.Goals as goal

pub returns-clause-reports : goal.returns-clause-reports
returns-clause-reports g c =
    on_ok c.take_run.result
    (copies_there g.S.EventSink.has_taken c.args.bytes.now c.args.reported.0 c.args.reported.1 c.args.reported.2 c.args.memory.now c.args.sink.now
    c.in-Some.part.now c.in-Some-range._there.now c.find_bytes.new.memory c.take_run.new.self c.find_bytes.new.sink
    (ap (λ at. bytes_at c.args.bytes.now at c.args.reported.2) (sym c.from.ensures) ∙ c.in-Some.ensures.0)
    c.in-Some.ensures.1
    (ap (λ at. bytes_at c.args.bytes.now at c.args.reported.2) (sym c.from-2.ensures) ∙ c.in-Some-range.ensures.0)
    c.in_ok-find_bytes.ensures.reports)
    c.take_run.ensures.ok
