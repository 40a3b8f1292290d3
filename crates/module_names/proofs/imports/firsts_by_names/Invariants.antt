use Rattle.std.proofs.Common.{◌≡◌, ℕ, List, map, take}
use Rattle.module_names.specs.Names.{first_named}
use Rattle.module_names.specs.Indexes.{under_names}
use Rattle.module_names.proofs.imports.firsts_by_names.Given as goal

abbrev pub invariant-imports : goal.invariant-imports
invariant-imports l =
    (from name : List ℕ) → under_names from name l.firsts.entries
    ≡ first_named from name 0 (map (λ import. import.now) (take l.index l.imports))
