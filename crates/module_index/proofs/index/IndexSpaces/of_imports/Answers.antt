use Rattle.std.proofs.Common.{ap, ◌∙◌}
use Rattle.module_index.specs.IndexSpaces.{with_import}
use Rattle.module_index.proofs.IndexLemmas.{import-added}
use Rattle.module_index.proofs.index.IndexSpaces.of_imports.Goals as goal

pub imports-preserved : goal.imports-preserved
imports-preserved c =
    c.in_ok-import.ensures
    ∙ ap (with_import c.import-item.result.kind) c.imports.invariant
    ∙ import-added c.args.imports.now c.imports.import-index c.import-item.result c.imports-test.true c.import-item.is
