use Rattle.worked_tapes.proofs.Observed.{worked_observations}
use Rattle.worked_tapes.proofs.examples_have_their_observations.Goals as goal

pub returns : goal.returns
returns c = worked_observations
