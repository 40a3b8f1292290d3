use Rattle.wasm_syntax.proofs.Encoding.Modules.{place_is, one_place}
use Rattle.wasm_syntax.proofs.encoding_laws.fault_places.Goals as goal

pub returns : goal.returns
returns c = let laws = c.number_encoding.ensures in record { found = place_is laws; one = one_place laws }
