use Rattle.leb_bytes.proofs.Encodings.{encoding_of, u32_range, u32_read, u32_shortest}
use Rattle.leb_bytes.proofs.laws.u32_encoding.Goals as goal

pub returns : goal.returns
returns c = record { range = u32_range; encoding = encoding_of u32_read u32_shortest }
