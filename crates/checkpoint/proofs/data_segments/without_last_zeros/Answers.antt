use Rattle.std.proofs.Common.{◌≡◌, ◌≢◌, ◌∙◌, arith}
use Rattle.checkpoint.proofs.Zeros.{zero_last, other_last}
use Rattle.checkpoint.proofs.data_segments.without_last_zeros.Goals as goal

pub bytes-preserved : goal.bytes-preserved
bytes-preserved c =
    let is_zero : c.in-Some.last.now ≡ 0 = omega arith in
    zero_last c.bytes.bytes.now c.in-Some.shorter.now c.in-Some.last.now c.in-Some.ensures.cases.0 is_zero
    ∙ c.bytes.invariant

pub returns-then-last-ne0 : goal.returns-then-last-ne0
returns-then-last-ne0 c =
    let other : c.in-Some.last.now ≢ 0 = omega arith in
    other_last c.bytes.bytes.now c.in-Some.shorter.now c.in-Some.last.now c.in-Some.ensures.cases.0 other
    ∙ c.bytes.invariant
