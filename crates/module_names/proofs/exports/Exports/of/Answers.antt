use Rattle.std.proofs.Common.{sym, ◌∙◌}
use Rattle.module_names.proofs.NameIndex.{keeps, adds}
use Rattle.module_names.proofs.exports.Exports.of.Goals as goal
use Rattle.module_names.proofs.exports.Exports.of.Goals.{then-not-contains_key+in_ok-insert, else-not-contains_key}

pub exports-preserved : goal.exports-preserved
exports-preserved c q =
    let xs = c.as_slice-export-items.result.now in
    let i = c.exports.export-index in
    let x = c.export-item.result in
    elim c.if-not-contains_key.branch [
      | then-not-contains_key+in_ok-insert w ↦
          rw w.kinds-is
          (adds (λ export. export.kind) (λ export. export.name) c.exports.kinds.entries w.insert.new.self.entries xs i x
          c.as_str-name.result.now c.as_str-name.ensures c.exports-test.true c.export-item.is
          (sym c.contains_key.ensures ∙ w.if-not-contains_key.true) (w.in_ok-insert.ensures.updates.0) q ∙ c.exports.invariant q)
      | else-not-contains_key w ↦
          rw w.kinds-is
          (keeps (λ export. export.kind) (λ export. export.name) c.exports.kinds.entries xs i x c.as_str-name.result.now
          c.as_str-name.ensures c.exports-test.true c.export-item.is
          (sym c.contains_key.ensures ∙ w.if-not-contains_key.false) q ∙ c.exports.invariant q)
    ]
