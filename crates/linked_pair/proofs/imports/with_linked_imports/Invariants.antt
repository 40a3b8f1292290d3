use Rattle.std.proofs.Common.{◌≡◌, ◌++◌, map, take}
use Rattle.pair_spec.specs.Pairs.{host_imports}
use Rattle.pair_spec.specs.Linked.{linked_import}
use Rattle.linked_pair.specs.SideNumbers.{instance_by}
use Rattle.linked_pair.proofs.imports.with_linked_imports.Given as goal

abbrev pub invariant-imports : goal.invariant-imports
invariant-imports l =
    l.list.items
    ≡ l.fn.before ++ map (linked_import (instance_by l.numbers)) (host_imports l.side (take l.import-index l.imports))
