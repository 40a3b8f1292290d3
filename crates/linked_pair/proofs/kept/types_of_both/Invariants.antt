use Rattle.std.proofs.Common.{◌≡◌, ◌++◌, take}
use Rattle.linked_pair.proofs.kept.types_of_both.Given as goal

abbrev pub invariant-types : goal.invariant-types
invariant-types l = l.list.items ≡ l.left ++ take l.ty-index l.right
