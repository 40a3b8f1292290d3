use Rattle.module_names.proofs.ImportLoops.{type_added}
use Rattle.module_names.proofs.imports.types_by_names.Goals as goal

pub imports-preserved : goal.imports-preserved
imports-preserved c from name =
    type_added c.args.module.now from name c.args.imports.now c.imports.import-index c.import-item.result _ _ _
    c.imports-test.true c.import-item.is c.import_type.ensures
    (c.imports.invariant from name) (c.in_ok-add_type.ensures.adds from name)
