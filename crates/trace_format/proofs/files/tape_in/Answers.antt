use Rattle.std.proofs.Common.{subst}
use Rattle.leb_bytes.proofs.Placed.{behind}
use Rattle.trace_format.specs.Answers.{AreEnded, header_length}
use Rattle.trace_format.specs.Reading.{first_close, first_segment}
use Rattle.trace_format.proofs.FileSteps.{items_fault_of_tape, tape_is_read}
use Rattle.trace_format.proofs.files.tape_in.Goals as goal

pub returns-in-Ok : goal.returns-in-Ok
returns-in-Ok c =
    tape_is_read c.args.bytes.now c.in_ok-version.digest c.in_ok-version.version c.in_ok-version.ensures c.in-Ok.tape
    (subst (λ r. AreEnded (first_segment c.in_ok-version.version) first_close r c.in-Ok.tape.segments tt)
    (behind c.args.bytes.now header_length) c.in-Ok.ensures)

pub returns-in-Err : goal.returns-in-Err
returns-in-Err c =
    items_fault_of_tape c.args.bytes.now c.in_ok-version.digest c.in_ok-version.version c.in_ok-version.ensures
    c.in-Err.fault c.in-Err.ensures
