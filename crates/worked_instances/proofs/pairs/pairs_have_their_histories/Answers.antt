use Rattle.worked_instances.proofs.PairHistories.{pair_runs}
use Rattle.worked_instances.proofs.pairs.pairs_have_their_histories.Goals as goal

pub returns : goal.returns
returns c = pair_runs
