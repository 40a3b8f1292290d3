use Rattle.std.proofs.Common.{◌≡◌, ◌++◌, map, take}
use Rattle.linked_pair.specs.Parts.{elem_by}
use Rattle.linked_pair.proofs.segments.with_linked_elems.Given as goal

abbrev pub invariant-elems : goal.invariant-elems
invariant-elems l = l.list.items ≡ l.fn.before ++ map (elem_by l.numbers) (take l.elem-index l.elems)
