use Rattle.std.proofs.Common.{◌≡◌, drop}
use Rattle.std.specs.Prelude.{filter_map}
use Rattle.wasm_syntax.specs.Index.{of_kind}
use Rattle.wasm_profile.specs.Answers.{limits_import, past_minimum}
use Rattle.wasm_profile.proofs.quantities.refuse_imports.Given as goal

abbrev pub invariant-imports : goal.invariant-imports
invariant-imports l =
    filter_map (past_minimum l.most l.which) (of_kind (limits_import l.which) l.imports)
    ≡ filter_map (past_minimum l.most l.which) (of_kind (limits_import l.which) (drop l.import-index l.imports))
