use Rattle.std.proofs.Common.{◌≡◌, ◌++◌, map}
use Rattle.trace_reduce.specs.Runs.{entry_effect}
use Rattle.trace_reduce.proofs.runs.put_entries.Given as goal

abbrev pub invariant-entries : goal.invariant-entries
invariant-entries l =
    l.initial.effects.items ++ map entry_effect l.entries.entries
    ≡ l.effects.items ++ map entry_effect l.index-iterator
