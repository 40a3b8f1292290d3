-- The items so far are those before the place.
use Rattle.std.proofs.Common.{◌≡◌, take}
use Rattle.wasm_syntax.proofs.lists.List.clone.Given as goal

abbrev pub invariant-loop-item : goal.invariant-loop-item
invariant-loop-item g l = l.items.items ≡ take l.item-index l.item-items
