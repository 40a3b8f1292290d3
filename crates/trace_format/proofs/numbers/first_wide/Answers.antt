use Rattle.std.proofs.Common.{arith, w64}
use Rattle.std.specs.Int.{from_le_bytes}
use Rattle.wasm_syntax.specs.Encoding.Readers.{first_f64}
use Rattle.wasm_syntax.proofs.Encoding.Bytes.{bits_read}
use Rattle.trace_format.proofs.numbers.first_wide.Goals as goal

pub returns-in-Some : goal.returns-in-Some
unfolding first_f64
returns-in-Some c =
    let e = c.in-Some.ensures.cases in
    rw (c.from_le_bytes.ensures, e.0, e.1)
    (bits_read (from_le_bytes w64) 8 c.args.bytes.now (omega (arith, e.2)) (λ i. omega (arith, c.type_inv.bytes i)))
