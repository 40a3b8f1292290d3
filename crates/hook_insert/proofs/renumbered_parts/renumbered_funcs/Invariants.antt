use Rattle.std.proofs.Common.{◌≡◌, map, take}
use Rattle.record_replay_spec.specs.Hooks.{renumber}
use Rattle.hook_insert.proofs.renumbered_parts.renumbered_funcs.Given as goal

abbrev pub invariant-funcs : goal.invariant-funcs
invariant-funcs l = l.list.items ≡ map (renumber l.imports) (take l.func-index l.funcs)
