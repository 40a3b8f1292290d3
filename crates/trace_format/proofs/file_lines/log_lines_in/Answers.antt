use Rattle.trace_format.specs.declared.files.FormatFault.TheVariants.{Bad}
use Rattle.trace_format.proofs.FileSteps.{items_fault_of_log, log_start_fault}
use Rattle.trace_format.proofs.LineLemmas.{log_shown}
use Rattle.trace_format.proofs.Shrinking.{events_shrink}
use Rattle.trace_format.proofs.file_lines.log_lines_in.Goals as goal

pub returns-in_default : goal.returns-in_default
returns-in_default c =
    log_start_fault c.args.bytes.now (Bad 0)
    (c.in_default.ensures.start c.in_ok-version.version c.in_ok-version.digest c.in_ok-version.ensures)

pub put_items_after-requires-clause-shrinks : goal.put_items_after-requires-clause-shrinks
put_items_after-requires-clause-shrinks c = events_shrink c.event_readers.ensures.events _

pub returns-in-Ok : goal.returns-in-Ok
returns-in-Ok c =
    log_shown c.args.bytes.now c.in_ok-version.digest c.in_ok-version.version c.in-Some.field-0-0 c.in-Some.start.now
    (c.in-Some.ensures.start c.in_ok-version.version c.in_ok-version.digest c.in_ok-version.ensures)
    c.in_ok-out.out.items c.put_items_after.new.out.items c.in_ok-out.ensures c.in-Ok.ensures

pub returns-in-Err : goal.returns-in-Err
returns-in-Err c =
    items_fault_of_log c.args.bytes.now c.in_ok-version.digest c.in_ok-version.version c.in-Some.field-0-0
    c.in-Some.start.now
    (c.in-Some.ensures.start c.in_ok-version.version c.in_ok-version.digest c.in_ok-version.ensures)
    c.in-Err.fault c.in-Err.ensures
