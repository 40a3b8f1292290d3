use Rattle.std.proofs.Common.{◌≡◌, take}
use Rattle.module_index.specs.IndexSpaces.{imported_spaces}
use Rattle.module_index.proofs.index.IndexSpaces.of_imports.Given as goal

abbrev pub invariant-imports : goal.invariant-imports
invariant-imports l = l.found ≡ imported_spaces (take l.import-index l.imports)
