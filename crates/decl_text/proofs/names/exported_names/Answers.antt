use Rattle.std.proofs.Common.{[]}
use Rattle.decl_text.proofs.TakenNames.{item_added}
use Rattle.decl_text.proofs.names.exported_names.Goals as goal

pub exports-preserved : goal.exports-preserved
exports-preserved c =
    item_added (λ export. export.name) _ _ [] c.as_slice-export-items.result.now c.exports.export-index c.export-item.result c.as_str.result.now
    c.exports-test.true c.export-item.is c.as_str.ensures c.exports.invariant (λ q. c.in_ok-insert.ensures.updates.0 q)
