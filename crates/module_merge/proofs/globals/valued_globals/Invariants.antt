use Rattle.std.proofs.Common.{◌≡◌, ◌++◌, map, length}
use Rattle.std.specs.List.{zip}
use Rattle.replay_module_spec.specs.Merge.{supplied_global}
use Rattle.module_merge.proofs.globals.valued_globals.Given as goal

-- the globals made and those still to make are all
abbrev pub invariant-globals : goal.invariant-globals
invariant-globals l =
    l.globals.items ++ map supplied_global (zip l.types l.values) ≡ map supplied_global (zip l.fn.types l.fn.values)

abbrev pub decreases-globals : goal.decreases-globals
decreases-globals l = length l.types
