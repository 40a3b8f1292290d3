use Rattle.worked_instances.proofs.ForeignHistories.{widened_runs}
use Rattle.worked_instances.proofs.foreign.widened_modules_run_alike.Goals as goal

pub returns : goal.returns
returns c = widened_runs
