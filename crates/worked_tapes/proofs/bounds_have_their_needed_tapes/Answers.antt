use Rattle.worked_tapes.proofs.Tapes.{worked_bounds}
use Rattle.worked_tapes.proofs.bounds_have_their_needed_tapes.Goals as goal

pub returns : goal.returns
returns c = worked_bounds c.tested_segments_are_needed.ensures
