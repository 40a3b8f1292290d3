use Rattle.std.proofs.Common.{◌≡◌, ◌++◌, map, flat_map}
use Rattle.std.specs.List.{range_with_len}
use Rattle.replay_module_spec.specs.Functions.{group_call}
use Rattle.replay_gen.specs.Pieces.{ended}
use Rattle.replay_gen.proofs.bodies.push_group_arms.Given as goal

abbrev pub invariant-groups : goal.invariant-groups
invariant-groups l =
    l.code.items ≡ l.fn.code.items ++ flat_map ended (map (group_call l.local) (range_with_len l.first l.group))
