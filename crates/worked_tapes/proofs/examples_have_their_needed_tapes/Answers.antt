use Rattle.worked_tapes.proofs.Tapes.{worked_tapes}
use Rattle.worked_tapes.proofs.examples_have_their_needed_tapes.Goals as goal

pub returns : goal.returns
returns c = worked_tapes c.tested_segments_are_needed.ensures
