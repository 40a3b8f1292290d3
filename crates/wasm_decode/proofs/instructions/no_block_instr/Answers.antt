use Rattle.wasm_decode.proofs.OpcodeLemmas.{no_block}
use Rattle.wasm_decode.proofs.instructions.no_block_instr.Goals as goal

pub returns : goal.returns
returns c = no_block c.args.form c.args.op c.args.bytes.now c.requires.low c.requires.high
