use Rattle.worked_instances.proofs.ForeignHistories.{foreign_runs}
use Rattle.worked_instances.proofs.foreign.foreign_runs_have_their_histories.Goals as goal

pub returns : goal.returns
returns c = foreign_runs
