use Rattle.std.proofs.Common.{subst}
use Rattle.std.specs.Prelude.{codes}
use Rattle.history_spec.specs.Line.{line}
use Rattle.leb_bytes.proofs.Placed.{behind}
use Rattle.trace_format.specs.Answers.{header_length}
use Rattle.trace_format.specs.Lines.{IsEndShown}
use Rattle.trace_format.specs.Reading.{first_close, first_segment}
use Rattle.trace_format.specs.Text.{segment_text}
use Rattle.trace_format.proofs.FileSteps.{items_fault_of_tape}
use Rattle.trace_format.proofs.LineLemmas.{tape_shown}
use Rattle.trace_format.proofs.Shrinking.{segments_shrink}
use Rattle.trace_format.proofs.file_lines.tape_lines_in.Goals as goal

pub put_items_after-requires-clause-shrinks : goal.put_items_after-requires-clause-shrinks
put_items_after-requires-clause-shrinks c = segments_shrink c.segment_readers.ensures _

pub returns-in-Ok : goal.returns-in-Ok
returns-in-Ok c =
    tape_shown c.args.bytes.now c.in_ok-version.digest c.in_ok-version.version c.in_ok-version.ensures
    c.in_ok-out.out.items c.put_items_after.new.out.items c.in_ok-out.ensures
    (subst
    (λ r. IsEndShown (first_segment c.in_ok-version.version) first_close segment_text (λ it. line (codes "close")) r
    c.in_ok-out.out.items c.put_items_after.new.out.items)
    (behind c.args.bytes.now header_length) c.in-Ok.ensures)

pub returns-in-Err : goal.returns-in-Err
returns-in-Err c =
    items_fault_of_tape c.args.bytes.now c.in_ok-version.digest c.in_ok-version.version c.in_ok-version.ensures
    c.in-Err.fault c.in-Err.ensures
