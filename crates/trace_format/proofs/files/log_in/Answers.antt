use Rattle.trace_format.specs.declared.files.FormatFault.TheVariants.{Bad}
use Rattle.trace_format.proofs.FileSteps.{items_fault_of_log, log_is_read, log_start_fault}
use Rattle.trace_format.proofs.files.log_in.Goals as goal

pub returns-in_default : goal.returns-in_default
returns-in_default c =
    log_start_fault c.args.bytes.now (Bad 0)
    (c.in_default.ensures.start c.in_ok-version.version c.in_ok-version.digest c.in_ok-version.ensures)

pub returns-in-Ok : goal.returns-in-Ok
returns-in-Ok c =
    log_is_read c.args.bytes.now c.in_ok-version.digest c.in_ok-version.version c.in-Some.imports c.in-Some.start.now
    (c.in-Some.ensures.start c.in_ok-version.version c.in_ok-version.digest c.in_ok-version.ensures)
    c.in-Ok.log c.in-Ok.ensures.0 c.in-Ok.ensures.1

pub returns-in-Err : goal.returns-in-Err
returns-in-Err c =
    items_fault_of_log c.args.bytes.now c.in_ok-version.digest c.in_ok-version.version c.in-Some.imports
    c.in-Some.start.now
    (c.in-Some.ensures.start c.in_ok-version.version c.in_ok-version.digest c.in_ok-version.ensures)
    c.in-Err.fault c.in-Err.ensures
