use Rattle.tape_laws.proofs.DroppedTapes.{nothing_can_be_dropped}
use Rattle.tape_laws.proofs.laws.nothing_can_be_dropped.Goals as goal

pub returns : goal.returns
returns c = nothing_can_be_dropped c.laws_of_steps.ensures c.laws_of_runs.ensures c.shown_steps.ensures
