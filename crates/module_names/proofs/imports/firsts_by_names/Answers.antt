use Rattle.std.proofs.Common.{sym, ◌∙◌}
use Rattle.module_names.specs.Indexes.{under_names}
use Rattle.module_names.proofs.ImportLoops.{place_kept, place_added}
use Rattle.module_names.proofs.imports.firsts_by_names.Goals as goal
use Rattle.module_names.proofs.imports.firsts_by_names.Goals.{then-not-contains_key+in_ok-insert, else-not-contains_key}

pub imports-preserved : goal.imports-preserved
imports-preserved c from name =
    elim c.if-not-contains_key.branch [
      | then-not-contains_key+in_ok-insert w ↦
          rw w.firsts-is
          (place_added from name c.args.imports.now c.imports.index c.index-imports-index.result
          (λ f n. under_names f n c.imports.firsts.entries) (λ f n. under_names f n w.insert.new.self.entries)
          c.imports-test.true c.index-imports-index.is
          (rw (sym c.as_str.ensures, sym c.as_str-in-imports.ensures) (sym c.contains_key.ensures ∙ w.if-not-contains_key.true)) (c.imports.invariant from name)
          (rw (sym c.as_str.ensures, sym c.as_str-in-imports.ensures) (w.in_ok-insert.ensures.updates.0
          (record { ref_ptr = (0, 0); now = from }, record { ref_ptr = (0, 0); now = name }))))
      | else-not-contains_key w ↦
          rw w.firsts-is
          (place_kept from name c.args.imports.now c.imports.index c.index-imports-index.result (λ f n. under_names f n c.imports.firsts.entries)
          c.imports-test.true c.index-imports-index.is
          (rw (sym c.as_str.ensures, sym c.as_str-in-imports.ensures)
          (sym c.contains_key.ensures ∙ w.if-not-contains_key.false)) (c.imports.invariant from name))
    ]
