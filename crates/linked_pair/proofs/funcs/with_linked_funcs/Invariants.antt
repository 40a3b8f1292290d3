use Rattle.std.proofs.Common.{◌≡◌, ◌++◌, map, take}
use Rattle.pair_spec.specs.Linked.{linked_func}
use Rattle.linked_pair.specs.SideNumbers.{instance_by}
use Rattle.linked_pair.proofs.funcs.with_linked_funcs.Given as goal

abbrev pub invariant-funcs : goal.invariant-funcs
invariant-funcs l = l.list.items ≡ l.fn.before ++ map (linked_func (instance_by l.numbers)) (take l.func-index l.funcs)
