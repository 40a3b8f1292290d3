use Rattle.std.proofs.Common.{◌≡◌, ◌++◌, take}
use Rattle.linked_pair.proofs.kept.limits_of_both.Given as goal

abbrev pub invariant-limits : goal.invariant-limits
invariant-limits l = l.list.items ≡ l.left ++ take l.limits-index l.right
