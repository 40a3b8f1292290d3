use Rattle.std.proofs.Common.{◌≡◌, ◌++◌, map, take}
use Rattle.linked_pair.specs.SideNumbers.{instance_by}
use Rattle.linked_pair.specs.Parts.{export_by}
use Rattle.linked_pair.proofs.exports.with_linked_exports.Given as goal

abbrev pub invariant-exports : goal.invariant-exports
invariant-exports l =
    l.list.items
    ≡ l.fn.before ++ map (export_by (instance_by l.numbers) l.side) (take l.export-index l.exports)
