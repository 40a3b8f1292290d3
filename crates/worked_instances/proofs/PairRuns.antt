-- The linked modules and the faults of the example pairs, computed.
use Rattle.std.proofs.Common.{refl}
use Rattle.worked_instances.specs.LinkedModules.{WorkedLinked}
use Rattle.worked_instances.specs.RefusedPairs.{WorkedFaults}

pub linked_modules : WorkedLinked
linked_modules = record { of_adders = refl; of_counters = refl; of_tables = refl; of_returning = refl }

pub refused_pairs : WorkedFaults
refused_pairs =
    record {
      no_export = refl;
      of_other_kind = refl;
      in_circle = refl;
      no_constant = refl;
      of_other_type = refl;
      too_small = refl;
      no_maximum = refl;
      greater_maximum = refl;
      two_memories = refl;
      two_tables = refl;
      two_starts = refl;
      same_memory = refl;
      one_start = refl;
      to_host = refl;
      of_adders = refl;
      of_callbacks = refl;
      of_trapping = refl;
      of_counters = refl;
      of_tables = refl;
      of_returning = refl;
    }
