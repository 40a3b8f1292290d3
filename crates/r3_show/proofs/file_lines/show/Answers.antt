use Rattle.std.proofs.Common.{subst}
use Rattle.r3_faults.specs.Answers.{IsExact}
use Rattle.r3_show.specs.FileLines.{IsShownAs, IsUnshownAs}
use Rattle.r3_show.proofs.OneShown.{shown_exactly}
use Rattle.r3_show.proofs.file_lines.show.Goals as goal

pub returns-then-begins_as_tape : goal.returns-then-begins_as_tape
returns-then-begins_as_tape c =
    subst (λ is_tape. IsExact (IsShownAs is_tape c.args.trace.now) (IsUnshownAs is_tape c.args.trace.now) c.tape_lines.result)
    c.if-begins_as_tape.ensures
    (shown_exactly c.log_files.ensures.apart c.tape_files.ensures.apart _ c.args.trace.now c.tape_lines.result c.tape_lines.ensures)

pub returns-else-begins_as_tape : goal.returns-else-begins_as_tape
returns-else-begins_as_tape c =
    subst (λ is_tape. IsExact (IsShownAs is_tape c.args.trace.now) (IsUnshownAs is_tape c.args.trace.now) c.log_lines.result)
    c.if-begins_as_tape.ensures
    (shown_exactly c.log_files.ensures.apart c.tape_files.ensures.apart _ c.args.trace.now c.log_lines.result c.log_lines.ensures)
