-- The law.
use Rattle.instance_laws.proofs.Steps.{runs_follow}
use Rattle.instance_laws.proofs.laws.runs_follow.Goals as goal

pub returns : goal.returns
returns c = runs_follow
