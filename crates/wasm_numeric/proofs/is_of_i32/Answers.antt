-- The opcodes between the counts of bits on `i32` and the sign extensions are of others.
use Rattle.std.proofs.Common.{sym, ◌∙◌, arith}
use Rattle.std.proofs.lemmas.Bool.{lt-leb}
use Rattle.wasm_numeric.specs.Opcode.{width_of}
use Rattle.wasm_numeric.proofs.OpcodeTable.{unary_opcodes, unary_between}
use Rattle.wasm_numeric.proofs.is_of_i32.Goals as goal

pub returns-else-op-ge-I32_EXTEND8_S : goal.returns-else-op-ge-I32_EXTEND8_S
returns-else-op-ge-I32_EXTEND8_S c =
    lt-leb 192 c.args.op (omega arith)
    ∙ sym (unary_between (width_of c.args.op) c.args.op (unary_opcodes c.args.op c.requires) (omega arith) (omega arith))
