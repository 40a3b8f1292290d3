use Rattle.std.proofs.Common.{arith}
use Rattle.leb_bytes.proofs.UnsignedSteps.{stops, goes_on, last_fits}
use Rattle.leb_bytes.proofs.read.front_u32.Goals as goal

pub returns-then-byte-lt128 : goal.returns-then-byte-lt128
returns-then-byte-lt128 c = (
  omega arith,
  stops _ c.args.bytes.now c.loop-before.before c.loop-before.low c.loop-before.shift c.loop-before-test.true
      c.loop-before.invariant.bits c.loop-before.invariant.rest c.from.result c.from.ensures (omega arith)
      (rw c.from.ensures (last_fits c.loop-before.shift c.loop-before.before _ c.loop-before.invariant.turns
      c.loop-before.invariant.within c.if-byte-lt128.true c.else-is_fifth.either)) (omega arith),
)

pub loop-before-preserved : goal.loop-before-preserved
loop-before-preserved c =
    let next = goes_on _ c.args.bytes.now c.loop-before.before c.loop-before.low c.loop-before.shift c.loop-before-test.true
    c.loop-before.invariant.bits c.loop-before.invariant.rest c.from-in-loop-before.result c.from-in-loop-before.ensures
    c.if-byte-lt128.false (omega (arith, c.type_inv.bytes c.loop-before.before)) (omega arith) in
    record { turns = omega arith; within = omega arith; bits = next.0; rest = next.1 }
