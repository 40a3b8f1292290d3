use Rattle.std.proofs.Common.{arith}
use Rattle.leb_bytes.proofs.SignedSteps.{goes_on}
use Rattle.leb_bytes.proofs.read.front_signed.Goals as goal

pub loop-before-preserved : goal.loop-before-preserved
loop-before-preserved c =
    let next = goes_on c.args.width _ c.args.bytes.now c.loop-before.before c.loop-before.low c.loop-before.shift c.loop-before-test.true
    c.loop-before.invariant.bits c.loop-before.invariant.rest c.from.result c.from.ensures c.if-byte-lt128.false
    (omega (arith, c.type_inv.bytes c.loop-before.before)) (omega arith) (omega arith) in
    record { left = omega arith; bits = next.0; rest = next.1 }
