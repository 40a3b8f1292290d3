use Rattle.std.proofs.Common.{sym, ◌∙◌, arith}
use Rattle.wasm_encode.proofs.LengthLemmas.{count_most, u32_count}
use Rattle.wasm_encode.proofs.lengths.u32_length.Goals as goal

pub returns-clause-length : goal.returns-clause-length
returns-clause-length c = c.byte_count.ensures ∙ sym (u32_count c.args.number)

pub returns-clause-few : goal.returns-clause-few
returns-clause-few c = omega (arith, c.byte_count.ensures, count_most 4 128 c.args.number)
