use Rattle.std.proofs.Common.{length}
use Rattle.wasm_syntax.proofs.VectorLists.{lists_within}
use Rattle.wasm_syntax.proofs.list_sizes.lists_of_encoding.Goals as goal

pub returns : goal.returns
returns c = record {
  within = λ form bytes m encodes.
      lists_within form m (length bytes)
      (c.shortest_encoding.ensures.encodable form bytes m encodes)
      (c.shortest_encoding.ensures.least form bytes m encodes);
}
