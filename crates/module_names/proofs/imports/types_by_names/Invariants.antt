use Rattle.std.proofs.Common.{◌≡◌, ℕ, List, map, take, option_map}
use Rattle.module_names.specs.Indexes.{under_names, types_if_any}
use Rattle.module_names.proofs.imports.types_by_names.Given as goal

abbrev pub invariant-imports : goal.invariant-imports
invariant-imports l =
    (from name : List ℕ) → option_map (λ types. map (λ ty. ty.now) types.items) (under_names from name l.types.entries)
    ≡ types_if_any l.module from name (map (λ import. import.now) (take l.import-index l.imports))
