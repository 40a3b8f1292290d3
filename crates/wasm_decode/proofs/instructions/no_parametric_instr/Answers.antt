use Rattle.wasm_decode.proofs.OpcodeLemmas.{no_parametric}
use Rattle.wasm_decode.proofs.instructions.no_parametric_instr.Goals as goal

pub returns : goal.returns
returns c = no_parametric c.args.form c.args.op c.args.bytes.now c.requires.low c.requires.high
