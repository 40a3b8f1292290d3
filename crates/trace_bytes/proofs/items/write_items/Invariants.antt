use Rattle.std.proofs.Common.{◌≡◌, ◌++◌, take}
use Rattle.std.specs.Prelude.{flat_map}
use Rattle.trace_bytes.proofs.items.write_items.Given as goal

abbrev pub invariant-items : goal.invariant-items
invariant-items g l = l.out.items ≡ l.fn.out.items ++ flat_map g.S.Spelling.bytes (take l.item-index l.items)
