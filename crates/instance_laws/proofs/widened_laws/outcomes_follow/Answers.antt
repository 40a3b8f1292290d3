-- The law.
use Rattle.instance_laws.proofs.Outcomes.{outcomes_follow}
use Rattle.instance_laws.proofs.widened_laws.outcomes_follow.Goals as goal

pub returns : goal.returns
returns c = outcomes_follow c.runs_follow.ensures
