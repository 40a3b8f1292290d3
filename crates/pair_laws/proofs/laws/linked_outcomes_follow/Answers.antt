-- The law.
use Rattle.pair_laws.proofs.LinkedStarts.{linked_outcomes_follow}
use Rattle.pair_laws.proofs.laws.linked_outcomes_follow.Goals as goal

pub returns : goal.returns
returns c = linked_outcomes_follow c.outcomes_follow.ensures c.linked_runs_follow.ensures
