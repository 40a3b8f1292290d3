use Rattle.std.proofs.Common.{◌≡◌, ◌++◌, ◌+◌, length}
use Rattle.replay_module_spec.specs.Functions.{import_funcs}
use Rattle.replay_gen.specs.Pieces.{group_total}
use Rattle.replay_gen.proofs.imports.push_import_funcs.Given as goal

-- the functions made and those still to make are all; all indices are within bounds
abbrev pub invariant-imports : goal.invariant-imports
invariant-imports l =
    (l.funcs.items ++ import_funcs l.scope l.counter l.first l.types l.imports
    ≡ l.fn.funcs.items ++ import_funcs l.fn.scope l.fn.counter l.fn.first l.fn.types l.fn.imports)
    × ((l.counter + length l.types ≡ l.fn.counter + length l.fn.types)
    × (l.first + group_total l.types l.imports ≡ l.fn.first + group_total l.fn.types l.fn.imports))

abbrev pub decreases-imports : goal.decreases-imports
decreases-imports l = length l.types
