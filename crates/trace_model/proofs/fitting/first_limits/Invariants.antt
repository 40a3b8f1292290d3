use Rattle.std.proofs.Common.{◌≡◌, drop}
use Rattle.wasm_syntax.specs.Index.{of_kind}
use Rattle.trace_model.specs.Fitting.{limits_import}
use Rattle.trace_model.proofs.fitting.first_limits.Given as goal

abbrev pub invariant-imports : goal.invariant-imports
invariant-imports l =
    of_kind (limits_import l.of_table) l.imports ≡ of_kind (limits_import l.of_table) (drop l.import-index l.imports)
