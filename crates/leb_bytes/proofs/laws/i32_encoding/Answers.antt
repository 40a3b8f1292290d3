use Rattle.leb_bytes.proofs.Encodings.{laws_32}
use Rattle.leb_bytes.proofs.laws.i32_encoding.Goals as goal

pub returns : goal.returns
returns c = record { of_signed = laws_32.by_signed; encoding = laws_32.integers }
