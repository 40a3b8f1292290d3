-- The law.
use Rattle.instance_laws.proofs.Outcomes.{widened_outcomes_follow}
use Rattle.instance_laws.proofs.widened_laws.widened_outcomes_follow.Goals as goal

pub returns : goal.returns
returns c = widened_outcomes_follow c.outcomes_follow.ensures c.widened_runs_follow.ensures
