use Rattle.std.proofs.Common.{arith}
use Rattle.wasm_syntax.specs.Index.{func_import}
use Rattle.wasm_profile.proofs.Scans.{count_next}
use Rattle.wasm_profile.proofs.instructions.imported_funcs.Goals as goal

pub imports-preserved : goal.imports-preserved
imports-preserved c = record {
  counted = omega (
    arith,
    c.one_if_func-count.ensures.count,
    count_next func_import c.imports.count _ c.args.imports.now c.imports.import-index c.import-item.result
        c.imports.invariant.counted c.imports-test.true c.import-item.is,
  );
  few = omega (arith, c.one_if_func-count.ensures.most, c.imports.invariant.few);
}
