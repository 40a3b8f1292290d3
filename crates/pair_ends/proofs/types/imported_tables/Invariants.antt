use Rattle.std.proofs.Common.{◌≡◌, ◌++◌, drop}
use Rattle.wasm_syntax.specs.Index.{of_kind, table_import}
use Rattle.pair_ends.proofs.types.imported_tables.Given as goal

-- the limits found and those still to be found are all
abbrev pub invariant-imports : goal.invariant-imports
invariant-imports l = l.tables.items ++ of_kind table_import (drop l.import-index l.import-items) ≡ of_kind table_import l.«module».imports
