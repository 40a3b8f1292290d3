-- The kit's bitwise operators and rotations are those of the definitions.
use Rattle.std.proofs.Common.{◌-◌, ◌%◌, sym, ◌∙◌, ap, Ok, arith}
use Rattle.std.proofs.Math.Nat.{mod-mod}
use Rattle.wasm_numeric.specs.Integer.{rotl_by}
use Rattle.wasm_numeric.proofs.Bitwise.{and_is, or_is, xor_is}
use Rattle.wasm_numeric.proofs.Rotations.{rotl_is, rotr_is}
use Rattle.wasm_numeric.proofs.i64_ops.i64_binary.Goals as goal

pub returns-in-And : goal.returns-in-And
returns-in-And c = rw c.in-And.is (ap (λ x. Ok x) (sym (and_is 64 c.args.a c.args.b c.ranges.a.fits)))

pub returns-in-Or : goal.returns-in-Or
returns-in-Or c = rw c.in-Or.is (ap (λ x. Ok x) (sym (or_is 64 c.args.a c.args.b c.ranges.a.fits c.ranges.b.fits)))

pub returns-in-Xor : goal.returns-in-Xor
returns-in-Xor c = rw c.in-Xor.is (ap (λ x. Ok x) (sym (xor_is 64 c.args.a c.args.b c.ranges.a.fits c.ranges.b.fits)))

-- the code reduces the count, and the kit's rotation does so again
pub returns-in-Rotl : goal.returns-in-Rotl
returns-in-Rotl c =
    rw c.in-Rotl.is
    (ap (λ x. Ok x)
    (c.rotate_left.ensures
    ∙ sym (rotl_is 64 c.args.a (c.args.b % 64 % 64) (omega arith) c.ranges.a.fits)
    ∙ ap (λ k. rotl_by 64 c.args.a k) (mod-mod c.args.b 64)))

pub returns-in-Rotr : goal.returns-in-Rotr
returns-in-Rotr c =
    rw c.in-Rotr.is
    (ap (λ x. Ok x)
    (c.rotate_right.ensures
    ∙ sym (rotr_is 64 c.args.a (c.args.b % 64 % 64) (omega arith) c.ranges.a.fits)
    ∙ ap (λ k. rotl_by 64 c.args.a ((64 - k) % 64)) (mod-mod c.args.b 64)))
