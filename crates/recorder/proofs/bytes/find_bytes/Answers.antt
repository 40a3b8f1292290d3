use Rattle.recorder.proofs.FoundBytes.{finds_known}
use Rattle.recorder.proofs.bytes.find_bytes.Goals as goal

pub returns-then-knows-clause-reports : goal.returns-then-knows-clause-reports
returns-then-knows-clause-reports g c =
    finds_known g.S.EventSink.has_taken c.args.memory.now c.args.sink.now c.args.addr c.args.bytes.now
    (c.knows.ensures.0 c.if-knows.true)
