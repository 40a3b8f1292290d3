use Rattle.worked_tapes.proofs.WrongTapes.{wrong_tapes}
use Rattle.worked_tapes.proofs.wrong_tapes_differ.Goals as goal

pub returns : goal.returns
returns c = wrong_tapes c.needed_tape_is_one.ensures c.tested_segments_are_needed.ensures
