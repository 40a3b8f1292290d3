use Rattle.leb_bytes.proofs.Encodings.{laws_64}
use Rattle.leb_bytes.proofs.laws.i64_encoding.Goals as goal

pub returns : goal.returns
returns c = record { of_signed = laws_64.by_signed; encoding = laws_64.integers }
