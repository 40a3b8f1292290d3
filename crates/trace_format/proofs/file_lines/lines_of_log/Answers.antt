use Rattle.std.proofs.Common.{◌≡◌}
use Rattle.trace_bytes.specs.declared.tags.TheConstants.{LOG_MAGIC}
use Rattle.trace_format.specs.Lines.{IsLogShown, log_content_text}
use Rattle.trace_format.proofs.FileAnswers.{reporting}
use Rattle.trace_format.proofs.Logs.{log_facts}
use Rattle.trace_format.proofs.file_lines.lines_of_log.Goals as goal

pub returns : goal.returns
returns c =
    reporting LOG_MAGIC c.args.bytes.now _ _ _ _ (log_facts c.event_readers.ensures.numbers c.event_readers.ensures.events c.args.bytes.now)
    (λ content text. text.items ≡ log_content_text content) (λ text. IsLogShown c.args.bytes.now text.items)
    (λ content text read lines. record { digest = content.0; log = content.1; spelled = read; lines = lines })
    c.log_lines_in.result c.log_lines_in.ensures
