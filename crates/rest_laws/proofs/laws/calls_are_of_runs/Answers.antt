-- The law.
use Rattle.rest_laws.proofs.Starts.{calls_are_of_runs}
use Rattle.rest_laws.proofs.laws.calls_are_of_runs.Goals as goal

pub returns : goal.returns
returns c = calls_are_of_runs
