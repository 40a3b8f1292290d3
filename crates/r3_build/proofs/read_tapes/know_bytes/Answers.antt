use Rattle.std.proofs.Common.{◌<◌, arith}
use Rattle.std.proofs.lemmas.List.Elements.{All-from_get_or}
use Rattle.r3_build.proofs.read_tapes.know_bytes.Goals as goal

pub returns : goal.returns
returns c = All-from_get_or (λ byte. byte < 256) c.args._bytes.now 0 (λ i within. omega (arith, c.type_inv._bytes i))
