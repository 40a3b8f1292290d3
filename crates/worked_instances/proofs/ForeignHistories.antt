-- The histories of the examples, computed.
use Rattle.std.proofs.Common.{refl}
use Rattle.std.specs.Fmt.{digits}
use Rattle.worked_instances.specs.ForeignHistories.{WorkedForeignRuns}
use Rattle.worked_instances.specs.WidenedModules.{WorkedWidened}

pub foreign_runs : WorkedForeignRuns
unfolding digits
foreign_runs =
    record {
      foreign_callback = refl;
      calls_back = refl;
      other_type = refl;
      calls_own = refl;
      from_segment = refl;
      imported_table = refl;
      missing_table = refl;
    }

pub widened_runs : WorkedWidened
unfolding digits
widened_runs = record { widened_module = refl; alike = refl }
