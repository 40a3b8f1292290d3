use Rattle.std.proofs.Common.{◌≡◌, length, take}
use Rattle.std.specs.Prelude.{flat_map}
use Rattle.wasm_encode.specs.Lengths.{at_most_u64}
use Rattle.wasm_encode.proofs.vectors.items_length.Given as goal

abbrev pub invariant-items : goal.invariant-items
invariant-items g l = l.total ≡ at_most_u64 (length (flat_map g.E.Encoding.bytes (take l.item-index l.items)))
