use Rattle.std.proofs.Common.{ℕ, ◌%◌, replicate, refl, sym}
use Rattle.std.proofs.lemmas.List.{length-replicate}
use Rattle.recorder.proofs.Arms.{on_ok}
use Rattle.recorder.proofs.Within.{store_past, store_there}
use Rattle.recorder.proofs.memory.fill.Goals as goal

pub returns-in_default-clause-reports : goal.returns-in_default-clause-reports
returns-in_default-clause-reports g c =
    store_past g.S.EventSink.has_taken c.args.view.now c.args.memory.now c.reach.new.memory c.args.sink.now c.reach.new.sink
    (sym c.if-not-has_memory.ensures) c.args.reported.0 c.args.reported.2 c.from.result c.end_of.result c.pages.result
    c.bytes.result.now c.from.ensures c.end_of.ensures c.pages.ensures c.bytes.ensures.bytes c.in_ok-reach.ensures.reports
    (replicate c.args.reported.2 (c.args.reported.1 % 256)) (length-replicate {A = ℕ} c.args.reported.2 (c.args.reported.1 % 256))
    c.in_default.ensures

pub returns-clause-reports : goal.returns-clause-reports
returns-clause-reports g c =
    on_ok c.take_same.result
    (store_there g.S.EventSink.has_taken c.args.view.now c.args.memory.now c.reach.new.memory c.args.sink.now
    c.reach.new.sink (sym c.if-not-has_memory.ensures) c.args.reported.0 c.args.reported.2 c.from.result c.end_of.result
    c.pages.result c.bytes.result.now c.from.ensures c.end_of.ensures c.pages.ensures c.bytes.ensures.bytes
    c.in_ok-reach.ensures.reports (replicate c.args.reported.2 (c.args.reported.1 % 256))
    (length-replicate {A = ℕ} c.args.reported.2 (c.args.reported.1 % 256)) c.in-Some._there.now c.take_same.new.memory
    c.args.reported.0 refl c.in-Some.ensures.0)
    c.take_same.ensures.taken
