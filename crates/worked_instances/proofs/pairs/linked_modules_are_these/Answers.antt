use Rattle.worked_instances.proofs.PairRuns.{linked_modules}
use Rattle.worked_instances.proofs.pairs.linked_modules_are_these.Goals as goal

pub returns : goal.returns
returns c = linked_modules
