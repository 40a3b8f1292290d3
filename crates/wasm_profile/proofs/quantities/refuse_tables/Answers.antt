use Rattle.std.proofs.Common.{◌++◌, slice_get, ap, ◌∙◌}
use Rattle.std.specs.Prelude.{filter_map}
use Rattle.wasm_syntax.specs.Index.{of_kind, table_import}
use Rattle.wasm_syntax.specs.declared.limits.TheConstants.{MAX_ENTRIES}
use Rattle.wasm_syntax.specs.declared.profile.Which.TheVariants.{Table}
use Rattle.wasm_profile.specs.Answers.{past_minimum}
use Rattle.wasm_profile.proofs.quantities.refuse_tables.Goals as goal

pub returns : goal.returns
returns c =
    c.refuse_all.ensures
    ∙ ap (λ all. slice_get (filter_map (past_minimum MAX_ENTRIES Table) (of_kind table_import c.args.«module».now.imports ++ all)) 0) c.as_slice.ensures
