use Rattle.std.proofs.Common.{◌+◌, sym, ap, ◌∙◌}
use Rattle.recorder.proofs.Arms.{on_ok}
use Rattle.recorder.proofs.Within.{load_past, load_there}
use Rattle.recorder.proofs.memory.load.Goals as goal

pub returns-in_default-clause-reports : goal.returns-in_default-clause-reports
returns-in_default-clause-reports g c =
    load_past g.S.EventSink.has_taken c.args.view.now c.args.memory.now c.reach.new.memory c.args.sink.now
    c.reach.new.sink (sym c.if-not-has_memory.ensures) (c.args.access.base + c.args.access.offset) c.args.access.width
    c.address_of-start.result (c.address_of-start.result + c.from.result) c.pages.result c.bytes.result.now
    c.address_of-start.ensures (ap (λ x. x + c.from.result) c.address_of-start.ensures
    ∙ ap (λ w. c.args.access.base + c.args.access.offset + w) c.from.ensures)
    c.pages.ensures c.bytes.ensures.bytes c.in_ok-reach.ensures.reports c.in_default.ensures

pub returns-clause-reports : goal.returns-clause-reports
returns-clause-reports g c =
    on_ok c.find_bytes.result
    (load_there g.S.EventSink.has_taken c.args.view.now c.args.memory.now c.reach.new.memory c.args.sink.now
    c.reach.new.sink (sym c.if-not-has_memory.ensures) (c.args.access.base + c.args.access.offset) c.args.access.width
    c.address_of-start.result (c.address_of-start.result + c.from.result) c.pages.result c.bytes.result.now
    c.address_of-start.ensures (ap (λ x. x + c.from.result) c.address_of-start.ensures
    ∙ ap (λ w. c.args.access.base + c.args.access.offset + w) c.from.ensures) c.pages.ensures c.bytes.ensures.bytes
    c.in_ok-reach.ensures.reports c.in-Some.bytes.now c.find_bytes.new.memory c.find_bytes.new.sink c.in-Some.ensures.0)
    c.find_bytes.ensures.reports
