-- The kit's counts are those of the definitions.
use Rattle.std.proofs.Common.{sym, w32}
use Rattle.wasm_numeric.proofs.Bitwise.{popcnt_is}
use Rattle.wasm_numeric.proofs.Zeros.{clz_is, ctz_is}
use Rattle.wasm_numeric.proofs.i32_ops.i32_unary.Goals as goal

pub returns-in-Clz : goal.returns-in-Clz
returns-in-Clz c = rw c.in-Clz.is (sym (clz_is 32 c.args.a c.ranges.a.fits))

pub returns-in-Ctz : goal.returns-in-Ctz
returns-in-Ctz c = rw c.in-Ctz.is (sym (ctz_is w32 c.args.a c.ranges.a.fits))

pub returns-in-Popcnt : goal.returns-in-Popcnt
returns-in-Popcnt c = rw c.in-Popcnt.is (sym (popcnt_is 32 c.args.a c.ranges.a.fits))
