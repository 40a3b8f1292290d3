use Rattle.trace_format.proofs.ItemReaders.{event_reads}
use Rattle.trace_format.proofs.laws.event_readers.Goals as goal

pub returns : goal.returns
returns c = record { numbers = c.number_laws.ensures; events = event_reads c.number_laws.ensures }
