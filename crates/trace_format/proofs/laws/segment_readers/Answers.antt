use Rattle.trace_format.proofs.ItemReaders.{segment_reads}
use Rattle.trace_format.proofs.laws.segment_readers.Goals as goal

pub returns : goal.returns
returns c = segment_reads c.number_laws.ensures
