use Rattle.wasm_syntax.proofs.Encoding.BestModules.{shortest_encodes, shortest_least}
use Rattle.wasm_syntax.proofs.Encoding.Encodable.{encodable_encodes, encodes_encodable}
use Rattle.wasm_syntax.proofs.encoding_laws.shortest_encoding.Goals as goal

pub returns : goal.returns
returns c =
    let laws = c.number_encoding.ensures in
    record {
      again = shortest_encodes laws;
      least = shortest_least laws;
      encodable = encodes_encodable laws;
      encodes = encodable_encodes laws;
    }
