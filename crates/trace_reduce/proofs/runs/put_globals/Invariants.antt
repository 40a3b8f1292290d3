use Rattle.std.proofs.Common.{◌≡◌, ◌++◌, map}
use Rattle.trace_reduce.specs.Runs.{global_effect}
use Rattle.trace_reduce.proofs.runs.put_globals.Given as goal

abbrev pub invariant-globals : goal.invariant-globals
invariant-globals l =
    l.initial.effects.items ++ map global_effect l.globals.entries
    ≡ l.effects.items ++ map global_effect l.global-iterator
