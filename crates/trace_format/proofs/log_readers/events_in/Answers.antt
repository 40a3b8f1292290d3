use Rattle.std.proofs.Common.{inl, inr, refl}
use Rattle.trace_format.specs.declared.files.FormatFault.TheVariants.{Bad}
use Rattle.trace_format.proofs.FileSteps.{log_header_read, log_start_fault}
use Rattle.trace_format.proofs.Taken.{log_is_taken}
use Rattle.trace_format.proofs.log_readers.events_in.Goals as goal

pub returns-in-Some-clause-answer : goal.returns-in-Some-clause-answer
returns-in-Some-clause-answer g c =
    log_is_taken g.S.LogSink.takes c.args.bytes.now c.in_ok-version.field-0-1 c.in_ok-version.version
    c.in-Some.field-0-0 c.in-Some.start.now
    (c.in-Some.ensures.start c.in_ok-version.version c.in_ok-version.field-0-1 c.in_ok-version.ensures)
    c.args.sink.now c.events_after.new.sink c.events_after.result c.events_after.ensures.answer

pub returns-in-Some-clause-whole : goal.returns-in-Some-clause-whole
returns-in-Some-clause-whole g c at is =
    let version = c.in_ok-version.version in
    let digest = c.in_ok-version.field-0-1 in
    let imports = c.in-Some.field-0-0 in
    let start = c.in-Some.start.now in
    inr (
      ((version, digest), imports),
      start,
      log_header_read c.args.bytes.now digest version imports start
          (c.in-Some.ensures.start version digest c.in_ok-version.ensures),
      c.events_after.ensures.whole at is,
    )

pub returns-in-None-clause-answer : goal.returns-in-None-clause-answer
returns-in-None-clause-answer g c =
    log_start_fault c.args.bytes.now (Bad 0)
    (c.in-None.ensures.start c.in_ok-version.version c.in_ok-version.field-0-1 c.in_ok-version.ensures)

pub returns-in-None-clause-whole : goal.returns-in-None-clause-whole
returns-in-None-clause-whole g c at is =
    inl
    ((c.in-None.ensures.start c.in_ok-version.version c.in_ok-version.field-0-1 c.in_ok-version.ensures).1, refl)
