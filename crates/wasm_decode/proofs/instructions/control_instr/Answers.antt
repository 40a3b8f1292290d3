use Rattle.std.proofs.Common.{arith}
use Rattle.wasm_decode.proofs.OpcodeLemmas.{gives_br_table, reads_br_if, reads_return}
use Rattle.wasm_decode.proofs.instructions.control_instr.Goals as goal

pub returns-in_ok-label-in-13 : goal.returns-in_ok-label-in-13
returns-in_ok-label-in-13 c =
    reads_br_if c.args.form c.args.op c.in_ok-label-in-13.label c.args.bytes.now c.in_ok-label-in-13.rest.now
    (omega arith) c.in_ok-label-in-13.ensures

pub returns-in-14 : goal.returns-in-14
returns-in-14 c =
    gives_br_table _ c.br_table_instr.result c.args.form c.args.op c.args.bytes.now (omega arith)
    c.br_table_instr.ensures

pub returns-in-15 : goal.returns-in-15
returns-in-15 c = reads_return c.args.form c.args.op c.args.bytes.now (omega arith)
