use Rattle.wasm_decode.proofs.OpcodeLemmas.{no_table}
use Rattle.wasm_decode.proofs.instructions.table_instr.Goals as goal

pub returns : goal.returns
returns c =
    no_table c.args.form c.args.op c.args.bytes.now c.requires.low c.requires.high c.if-op-eq-TABLE_SET.false
