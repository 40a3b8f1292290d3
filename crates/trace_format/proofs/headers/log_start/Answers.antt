use Rattle.trace_format.proofs.FileSteps.{log_begun, log_not_begun, number_left}
use Rattle.trace_format.proofs.headers.log_start.Goals as goal

pub returns-in-Some-clause-start : goal.returns-in-Some-clause-start
returns-in-Some-clause-start c = λ version digest there.
    log_begun c.event_readers.ensures.numbers c.args.bytes.now digest version c.in-Some.imports c.in-Some.start.now there
    c.in-Some.ensures

pub returns-in-Some-clause-shorter : goal.returns-in-Some-clause-shorter
returns-in-Some-clause-shorter c =
    number_left c.event_readers.ensures.numbers c.args.bytes.now c.in-Some.imports c.in-Some.start.now c.in-Some.ensures

pub returns-in-None-clause-start : goal.returns-in-None-clause-start
returns-in-None-clause-start c = λ version digest there.
    log_not_begun c.args.bytes.now digest version there c.in-None.ensures
