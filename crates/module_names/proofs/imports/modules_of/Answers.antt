use Rattle.module_names.proofs.ImportLoops.{module_added}
use Rattle.module_names.proofs.imports.modules_of.Goals as goal

pub imports-preserved : goal.imports-preserved
imports-preserved c from =
    module_added from c.as_str.result.now c.args.imports.now c.imports.import-index c.import-item.result _ _
    c.imports-test.true c.import-item.is c.as_str.ensures
    (c.imports.invariant from) (c.in_ok-insert.ensures.updates.0 (record { ref_ptr = (0, 0); now = from }))
