-- What the examples observe, computed.
use Rattle.std.proofs.Common.{refl}
use Rattle.worked_tapes.specs.Observed.{WorkedObservations}

pub worked_observations : WorkedObservations
worked_observations =
    record {
      overwrite = refl;
      store_traps = refl;
      copy_load = refl;
      fill_grown = refl;
      nested_call = refl;
      nested_trap = refl;
      host_trap = refl;
      table_growth = refl;
      table_growth_short = refl;
      float_global = refl;
    }
