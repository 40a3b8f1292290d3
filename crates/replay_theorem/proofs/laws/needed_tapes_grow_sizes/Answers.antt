use Rattle.replay_theorem.proofs.Whole.{needed_tapes_grow_sizes}
use Rattle.replay_theorem.proofs.laws.needed_tapes_grow_sizes.Goals as goal

pub returns : goal.returns
returns c = needed_tapes_grow_sizes c.laws_of_steps.ensures c.laws_of_runs.ensures
