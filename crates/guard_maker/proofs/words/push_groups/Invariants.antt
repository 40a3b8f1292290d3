use Rattle.std.proofs.Common.{◌≡◌, ◌++◌, ◌*◌, map, take, drop}
use Rattle.std.specs.List.{range_with_len}
use Rattle.replay_module_spec.specs.declared.groups.TheConstants.{GROUP_CALLS}
use Rattle.guarded_module_spec.specs.Functions.{group_func}
use Rattle.guard_maker.proofs.words.push_groups.Given as goal

abbrev pub invariant-groups : goal.invariant-groups
invariant-groups l =
    l.funcs.items ≡ l.fn.funcs.items
    ++ map (λ number. group_func l.n (take GROUP_CALLS (drop (GROUP_CALLS * number) l.words))) (range_with_len 0 l.number)
