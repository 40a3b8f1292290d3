use Rattle.std.proofs.Common.{arith}
use Rattle.wasm_encode.proofs.VectorLemmas.{item_le}
use Rattle.wasm_encode.proofs.vectors.write_items.Goals as goal

pub write-requires-clause-sizes : goal.write-requires-clause-sizes
write-requires-clause-sizes g c =
    omega (
      arith,
      item_le g.E.Encoding.bytes c.args.items.now c.items.item-index c.item-item.result c.items-test.true
          c.item-item.is,
    )
