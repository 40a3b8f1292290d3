use Rattle.std.proofs.Common.{◌≡◌}
use Rattle.trace_bytes.specs.declared.tags.TheConstants.{TAPE_MAGIC}
use Rattle.trace_format.specs.Lines.{IsTapeShown, tape_content_text}
use Rattle.trace_format.proofs.FileAnswers.{reporting}
use Rattle.trace_format.proofs.Tapes.{tape_facts}
use Rattle.trace_format.proofs.file_lines.lines_of_tape.Goals as goal

pub returns : goal.returns
returns c =
    reporting TAPE_MAGIC c.args.bytes.now _ _ _ _ (tape_facts c.segment_readers.ensures c.args.bytes.now)
    (λ content text. text.items ≡ tape_content_text content) (λ text. IsTapeShown c.args.bytes.now text.items)
    (λ content text read lines. record { digest = content.0; tape = content.1; spelled = read; lines = lines })
    c.tape_lines_in.result c.tape_lines_in.ensures
