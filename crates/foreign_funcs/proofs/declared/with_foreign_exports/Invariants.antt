use Rattle.std.proofs.Common.{◌≡◌, ◌+◌, ◌++◌, drop}
use Rattle.instance_spec.specs.Widened.{foreign_exports}
use Rattle.foreign_funcs.proofs.declared.with_foreign_exports.Given as goal

-- the exports made and those still to make are all
abbrev pub invariant-decls : goal.invariant-decls
invariant-decls l =
    l.list.items ++ foreign_exports (l.first + l.place) (drop l.place l.decls)
    ≡ l.fn.exports ++ foreign_exports l.first l.decls
