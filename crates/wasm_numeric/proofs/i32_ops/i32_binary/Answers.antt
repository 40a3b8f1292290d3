-- The kit's bitwise operators and rotations are those of the definitions.
use Rattle.std.proofs.Common.{◌%◌, sym, ◌∙◌, ap, Ok, arith}
use Rattle.wasm_numeric.proofs.Bitwise.{and_is, or_is, xor_is}
use Rattle.wasm_numeric.proofs.Rotations.{rotl_is, rotr_is}
use Rattle.wasm_numeric.proofs.i32_ops.i32_binary.Goals as goal

pub returns-in-And : goal.returns-in-And
returns-in-And c = rw c.in-And.is (ap (λ x. Ok x) (sym (and_is 32 c.args.a c.args.b c.ranges.a.fits)))

pub returns-in-Or : goal.returns-in-Or
returns-in-Or c = rw c.in-Or.is (ap (λ x. Ok x) (sym (or_is 32 c.args.a c.args.b c.ranges.a.fits c.ranges.b.fits)))

pub returns-in-Xor : goal.returns-in-Xor
returns-in-Xor c = rw c.in-Xor.is (ap (λ x. Ok x) (sym (xor_is 32 c.args.a c.args.b c.ranges.a.fits c.ranges.b.fits)))

pub returns-in-Rotl : goal.returns-in-Rotl
returns-in-Rotl c = rw c.in-Rotl.is (ap (λ x. Ok x) (c.rotate_left.ensures ∙ sym (rotl_is 32 c.args.a (c.args.b % 32) (omega arith) c.ranges.a.fits)))

pub returns-in-Rotr : goal.returns-in-Rotr
returns-in-Rotr c = rw c.in-Rotr.is (ap (λ x. Ok x) (c.rotate_right.ensures ∙ sym (rotr_is 32 c.args.a (c.args.b % 32) (omega arith) c.ranges.a.fits)))
