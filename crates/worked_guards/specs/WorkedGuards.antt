-- What is computed of guarded modules.
use Rattle.worked_guards.specs.Guards.{GuardsOfReplays}
use Rattle.worked_guards.specs.Rows.{WorkedRows}
use Rattle.worked_guards.specs.Others.{DifferencesAreSeen}

-- the guarded modules of the worked replay modules, worked rows, and other functions in the originals' places
pub record WorkedGuards : Type 0 where
  pub guards : GuardsOfReplays
  pub rows : WorkedRows
  pub differences : DifferencesAreSeen
