use Rattle.std.proofs.Common.{◌≡◌, map, filter, take}
use Rattle.module_names.specs.Names.{is_in}
use Rattle.module_names.proofs.imports.imports_of.Given as goal

abbrev pub invariant-imports : goal.invariant-imports
invariant-imports l = map (λ import. import.now) l.found.items ≡ filter (is_in l.space) (take l.import-index l.imports)
