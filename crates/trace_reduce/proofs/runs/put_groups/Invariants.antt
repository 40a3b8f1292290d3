use Rattle.std.proofs.Common.{◌≡◌, ◌++◌, drop}
use Rattle.trace_reduce.specs.ByteGroups.{bytes_of, merged_from}
use Rattle.trace_reduce.specs.Runs.{runs_from}
use Rattle.trace_reduce.proofs.runs.put_groups.Given as goal

abbrev pub invariant-others : goal.invariant-others
invariant-others l =
    l.initial.runs.effects.items
    ++ runs_from l.initial.runs.start l.initial.runs.run.items (bytes_of (merged_from l.first l.others))
    ≡ l.runs.effects.items
    ++ runs_from l.runs.start l.runs.run.items (bytes_of (merged_from l.group (drop l.next-index l.others)))
