use Rattle.leb_bytes.proofs.Encodings.{laws_64}
use Rattle.leb_bytes.proofs.laws.s64_encoding.Goals as goal

pub returns : goal.returns
returns c = record { range = laws_64.range; encoding = laws_64.signed }
