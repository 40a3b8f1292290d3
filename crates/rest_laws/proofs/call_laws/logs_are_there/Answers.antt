-- The law.
use Rattle.rest_laws.proofs.TopRuns.{logs_are_there}
use Rattle.rest_laws.proofs.call_laws.logs_are_there.Goals as goal

pub returns : goal.returns
returns c = logs_are_there
