use Rattle.std.proofs.Common.{◌≡◌, ◌+◌, ◌++◌, drop}
use Rattle.instance_spec.specs.Widened.{foreign_imports}
use Rattle.foreign_funcs.proofs.declared.widened_imports.Given as goal

-- the imports made and those still to make are all
abbrev pub invariant-decls : goal.invariant-decls
invariant-decls l =
    l.imports.items ++ foreign_imports (l.types + l.place) (drop l.place l.decls)
    ≡ l.«module».imports ++ foreign_imports l.types l.decls
