use Rattle.std.proofs.Common.{◌≡◌, ◌++◌, ◌+◌, length}
use Rattle.guard_maker.specs.Parts.{marked_fronts}
use Rattle.guard_maker.proofs.funcs.push_func_fronts.Given as goal

-- the fronts made and those still to make are all; all indices are within bounds
abbrev pub invariant-fronts : goal.invariant-fronts
invariant-fronts l =
    (l.list.items ++ marked_fronts l.types l.n l.marks l.number l.funcs
    ≡ l.fn.list.items ++ marked_fronts l.types l.n l.marks l.fn.first l.fn.funcs)
    × (l.number + length l.funcs ≡ l.fn.first + length l.fn.funcs)

abbrev pub decreases-fronts : goal.decreases-fronts
decreases-fronts l = length l.funcs
