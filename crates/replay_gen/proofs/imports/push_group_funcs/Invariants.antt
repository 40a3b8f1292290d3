use Rattle.std.proofs.Common.{◌≡◌, ◌++◌, ◌≤◌, length}
use Rattle.replay_module_spec.specs.Functions.{group_funcs}
use Rattle.replay_gen.specs.Pieces.{group_total}
use Rattle.replay_gen.proofs.imports.push_group_funcs.Given as goal

-- the functions made and those still to make are all
abbrev pub invariant-imports : goal.invariant-imports
invariant-imports l =
    (l.funcs.items ++ group_funcs l.scope l.types l.imports
    ≡ l.fn.funcs.items ++ group_funcs l.fn.scope l.fn.types l.fn.imports)
    × (group_total l.types l.imports ≤ group_total l.fn.types l.fn.imports)

abbrev pub decreases-imports : goal.decreases-imports
decreases-imports l = length l.types
