-- The law.
use Rattle.instance_laws.proofs.WidenedRuns.{widened_runs_follow}
use Rattle.instance_laws.proofs.laws.widened_runs_follow.Goals as goal

pub returns : goal.returns
returns c = widened_runs_follow
