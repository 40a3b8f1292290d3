use Rattle.std.proofs.Common.{◌≡◌, ◌++◌, map, take}
use Rattle.linked_pair.specs.Parts.{data_by}
use Rattle.linked_pair.proofs.segments.with_linked_datas.Given as goal

abbrev pub invariant-datas : goal.invariant-datas
invariant-datas l = l.list.items ≡ l.fn.before ++ map (data_by l.numbers) (take l.segment-index l.datas)
