use Rattle.std.proofs.Common.{◌≡◌, ◌++◌, replicate}
use Rattle.hook_insert.proofs.bodies.push_zeros.Given as goal

abbrev pub invariant-loop : goal.invariant-loop
invariant-loop l = l.weights.items ≡ l.initial.weights.items ++ replicate l.counter 0
