use Rattle.std.proofs.Common.{◌≡◌, drop}
use Rattle.bench_machine.specs.Arguments.{are_of}
use Rattle.bench_machine.proofs.calls.are_of.Given as goal

-- the rest of both lists is of its types if both lists are
abbrev pub invariant-types : goal.invariant-types
invariant-types l = are_of (drop l.at l.types) (drop l.at l.values) ≡ are_of l.types l.values
