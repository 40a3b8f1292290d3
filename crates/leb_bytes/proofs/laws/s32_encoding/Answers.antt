use Rattle.leb_bytes.proofs.Encodings.{laws_32}
use Rattle.leb_bytes.proofs.laws.s32_encoding.Goals as goal

pub returns : goal.returns
returns c = record { range = laws_32.range; encoding = laws_32.signed }
