use Rattle.wasm_syntax.specs.Index.{table_import}
use Rattle.instantiation_parts.proofs.Imported.{limits_by_test}
use Rattle.instantiation_parts.proofs.limits.table_limits.Goals as goal

pub returns : goal.returns
returns c =
    let m = c.args.module.now in
    cc (limits_by_test table_import m.imports c.args.supply.now.table m.tables)
