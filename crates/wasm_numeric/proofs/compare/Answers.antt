-- An opcode past those of `i32` has operands of 64 bits.
use Rattle.std.proofs.Common.{sym, ◌∙◌, ap₂, arith}
use Rattle.wasm_numeric.specs.Integer.{compare_value}
use Rattle.wasm_numeric.proofs.OpcodeTable.{compare_opcodes, width_within, width_past}
use Rattle.wasm_numeric.proofs.compare.Goals as goal

pub returns-else-op-le-I32_GE_U : goal.returns-else-op-le-I32_GE_U
returns-else-op-le-I32_GE_U c =
    c.i64_compare.ensures
    ∙ ap₂ (λ operation w. compare_value operation w c.args.a c.args.b) c.compare_op-operation.ensures
    (sym (width_past (compare_opcodes c.args.op c.requires.kind) (omega arith)))

pub returns-then-op-le-I32_GE_U : goal.returns-then-op-le-I32_GE_U
returns-then-op-le-I32_GE_U c =
    c.i32_compare.ensures
    ∙ ap₂ (λ operation w. compare_value operation w c.args.a c.args.b) c.compare_op-operation.ensures
    (sym (width_within (compare_opcodes c.args.op c.requires.kind) (omega arith)))
