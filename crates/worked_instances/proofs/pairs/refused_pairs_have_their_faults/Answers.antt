use Rattle.worked_instances.proofs.PairRuns.{refused_pairs}
use Rattle.worked_instances.proofs.pairs.refused_pairs_have_their_faults.Goals as goal

pub returns : goal.returns
returns c = refused_pairs
