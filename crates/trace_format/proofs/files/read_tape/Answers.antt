use Rattle.trace_bytes.specs.declared.tags.TheConstants.{TAPE_MAGIC}
use Rattle.trace_format.proofs.FileAnswers.{content_answer}
use Rattle.trace_format.proofs.Tapes.{tape_facts}
use Rattle.trace_format.proofs.files.read_tape.Goals as goal

pub returns : goal.returns
returns c =
    content_answer TAPE_MAGIC c.args.bytes.now _ _ _ _ (tape_facts c.segment_readers.ensures c.args.bytes.now)
    c.tape_in.result c.tape_in.ensures
