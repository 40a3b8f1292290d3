use Rattle.std.proofs.Common.{◌+◌, ◌-◌, arith}
use Rattle.wasm_encode.proofs.LengthLemmas.{count_next}
use Rattle.wasm_encode.specs.Lengths.{byte_count}
use Rattle.wasm_encode.proofs.lengths.byte_count.Goals as goal

pub bytes-preserved : goal.bytes-preserved
bytes-preserved c = record {
  within = omega arith;
  so_far =
      count_next c.bytes.count c.args.most c.args.last c.bytes.left
      (1 + byte_count (c.args.most - 1) c.args.last c.args.number)
      c.bytes-test.true c.if-left-last.false c.bytes.invariant.so_far;
}
