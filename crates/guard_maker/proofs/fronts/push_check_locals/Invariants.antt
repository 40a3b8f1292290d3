use Rattle.std.proofs.Common.{◌≡◌, ◌++◌, ◌+◌, length}
use Rattle.guarded_module_spec.specs.Fronts.{check_locals}
use Rattle.guard_maker.proofs.fronts.push_check_locals.Given as goal

-- the code made and that still to make are all; all indices are within bounds
abbrev pub invariant-locals : goal.invariant-locals
invariant-locals l =
    (l.code.items ++ check_locals l.n l.local l.types ≡ l.fn.code.items ++ check_locals l.n l.fn.first l.fn.types)
    × (l.local + length l.types ≡ l.fn.first + length l.fn.types)

abbrev pub decreases-locals : goal.decreases-locals
decreases-locals l = length l.types
