-- The histories of the example pairs, computed.
use Rattle.std.proofs.Common.{refl}
use Rattle.std.specs.Fmt.{digits}
use Rattle.worked_instances.specs.PairHistories.{WorkedPairs}

pub pair_runs : WorkedPairs
unfolding digits
pair_runs =
    record {
      two_adders = record { of_pair = refl; of_linked = refl };
      calls_back = record { of_pair = refl; of_linked = refl };
      far_trap = record { of_pair = refl; of_linked = refl };
      shared_global = record { of_pair = refl; of_linked = refl };
      shared_table = record { of_pair = refl; of_linked = refl };
    }
