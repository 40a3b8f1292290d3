use Rattle.trace_bytes.specs.declared.tags.TheConstants.{LOG_MAGIC}
use Rattle.trace_format.proofs.FileAnswers.{content_answer}
use Rattle.trace_format.proofs.Logs.{log_facts}
use Rattle.trace_format.proofs.files.read_log.Goals as goal

pub returns : goal.returns
returns c =
    content_answer LOG_MAGIC c.args.bytes.now _ _ _ _ (log_facts c.event_readers.ensures.numbers c.event_readers.ensures.events c.args.bytes.now)
    c.log_in.result c.log_in.ensures
