use Rattle.std.proofs.Common.{◌≡◌, ◌++◌, map, take}
use Rattle.linked_pair.specs.Parts.{global_by}
use Rattle.linked_pair.proofs.globals.with_linked_globals.Given as goal

abbrev pub invariant-globals : goal.invariant-globals
invariant-globals l = l.list.items ≡ l.fn.before ++ map (global_by l.numbers) (take l.global-index l.globals)
