use Rattle.decl_text.specs.Texts.{first_taken, export_names}
use Rattle.decl_text.proofs.TakenNames.{item_added, is_first, goes_on}
use Rattle.decl_text.proofs.names.first_taken.Goals as goal

pub returns-then-contains : goal.returns-then-contains
returns-then-contains c =
    is_first c.decls.names.keys (export_names c.args.module.now) c.args.decls.now c.decls.decl-index c.decl-item.result
    c.as_str-name.result.now c.contains.result c.decls-test.true c.decl-item.is c.as_str-name.ensures c.decls.invariant.0 c.contains.ensures
    (first_taken (export_names c.args.module.now) c.args.decls.now) c.if-contains.true c.decls.invariant.1

pub decls-preserved : goal.decls-preserved
decls-preserved c = (
  item_added (λ decl. decl.name) _ _ (export_names c.args.module.now) c.args.decls.now c.decls.decl-index c.decl-item.result c.as_str-name.result.now
      c.decls-test.true c.decl-item.is c.as_str-name.ensures c.decls.invariant.0 (λ q. c.in_ok-insert.ensures.updates.0 q),
  goes_on c.decls.names.keys (export_names c.args.module.now) c.args.decls.now c.decls.decl-index c.decl-item.result c.as_str-name.result.now c.contains.result
      c.decls-test.true c.decl-item.is c.as_str-name.ensures c.decls.invariant.0 c.contains.ensures
      (first_taken (export_names c.args.module.now) c.args.decls.now) c.if-contains.false c.decls.invariant.1,
)
