-- The law.
use Rattle.pair_laws.proofs.LinkedStarts.{linked_runs_follow}
use Rattle.pair_laws.proofs.laws.linked_runs_follow.Goals as goal

pub returns : goal.returns
returns c = linked_runs_follow c.bodies_are_renamed.ensures c.runs_follow.ensures
