use Rattle.log_tape_laws.proofs.Segments.{log_tapes_are_writable}
use Rattle.log_tape_laws.proofs.laws.log_tapes_are_writable.Goals as goal

pub returns : goal.returns
returns c = log_tapes_are_writable
