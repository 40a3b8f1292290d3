use Rattle.std.proofs.Common.{◌≡◌, ℕ, List, map, take}
use Rattle.std.specs.List.{list_any}
use Rattle.std.specs.Str.{bytes_eq}
use Rattle.module_names.specs.Names.{is_from}
use Rattle.module_names.proofs.imports.modules_of.Given as goal

abbrev pub invariant-imports : goal.invariant-imports
invariant-imports l =
    (from : List ℕ) → list_any (λ key. bytes_eq from key.now) l.names.keys
    ≡ list_any (is_from from) (map (λ import. import.now) (take l.import-index l.imports))
