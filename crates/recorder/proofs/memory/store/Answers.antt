use Rattle.std.proofs.Common.{◌+◌, sym, ap, ◌∙◌}
use Rattle.history_spec.specs.Store.{bytes_of}
use Rattle.history_spec.proofs.ByteNumbers.{length-bytes_of}
use Rattle.recorder.proofs.Arms.{on_ok}
use Rattle.recorder.proofs.Within.{store_past, store_there}
use Rattle.recorder.proofs.memory.store.Goals as goal

pub returns-in_default-clause-reports : goal.returns-in_default-clause-reports
returns-in_default-clause-reports g c =
    store_past g.S.EventSink.has_taken c.args.view.now c.args.memory.now c.reach.new.memory c.args.sink.now
    c.reach.new.sink (sym c.if-not-has_memory.ensures) (c.args.access.base + c.args.access.offset) c.args.access.width
    c.address_of-start.result (c.address_of-start.result + c.from.result) c.pages.result c.bytes.result.now
    c.address_of-start.ensures (ap (λ x. x + c.from.result) c.address_of-start.ensures
    ∙ ap (λ w. c.args.access.base + c.args.access.offset + w) c.from.ensures)
    c.pages.ensures c.bytes.ensures.bytes c.in_ok-reach.ensures.reports (bytes_of c.args.access.width c.args.bits)
    (length-bytes_of c.args.access.width c.args.bits) c.in_default.ensures

pub returns-clause-reports : goal.returns-clause-reports
returns-clause-reports g c =
    on_ok c.take_number.result
    (store_there g.S.EventSink.has_taken c.args.view.now c.args.memory.now c.reach.new.memory c.args.sink.now
    c.reach.new.sink (sym c.if-not-has_memory.ensures) (c.args.access.base + c.args.access.offset) c.args.access.width
    c.address_of-start.result (c.address_of-start.result + c.from.result) c.pages.result c.bytes.result.now
    c.address_of-start.ensures (ap (λ x. x + c.from.result) c.address_of-start.ensures
    ∙ ap (λ w. c.args.access.base + c.args.access.offset + w) c.from.ensures)
    c.pages.ensures c.bytes.ensures.bytes c.in_ok-reach.ensures.reports (bytes_of c.args.access.width c.args.bits)
    (length-bytes_of c.args.access.width c.args.bits) c.in-Some._there.now c.take_number.new.memory
    c.address_of-start.result c.address_of-start.ensures c.in-Some.ensures.0) c.take_number.ensures.taken
