use Rattle.std.proofs.Common.{◌≡◌, ◌++◌, drop}
use Rattle.linked_pair.specs.GlobalConstants.{constants_of_ends}
use Rattle.linked_pair.proofs.global_constants.constants_of_ends.Given as goal

-- the constants made and those still to make are all
abbrev pub invariant-indices : goal.invariant-indices
invariant-indices l =
    l.list.items ++ constants_of_ends l.modules l.ends l.side l.index (drop l.index l.own)
    ≡ constants_of_ends l.modules l.ends l.side 0 l.own
