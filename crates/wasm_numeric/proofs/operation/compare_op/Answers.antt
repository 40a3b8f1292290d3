-- The arms name each opcode of the kind.
use Rattle.std.proofs.Common.{arith, inl, inr}
use Rattle.wasm_numeric.proofs.OpcodeTable.{compare_opcodes}
use Rattle.wasm_numeric.proofs.operation.compare_op.Goals as goal

pub unreachable-requires : goal.unreachable-requires
unreachable-requires c =
    elim (compare_opcodes c.args.op c.requires) [ inl low ↦ grind (arith, low, c.in_default) | inr high ↦ grind (arith, high, c.in_default) ]
