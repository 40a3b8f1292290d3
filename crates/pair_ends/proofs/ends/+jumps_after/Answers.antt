use Rattle.std.proofs.Common.{◌≡◌, ◌+◌, ◌/◌, IfOk, subst, arith}
use Rattle.pair_ends.specs.Ends.{JumpsOfEach}
use Rattle.pair_ends.proofs.Chains.{joined_each, joined_thrice}
use Rattle.pair_ends.proofs.ends.+jumps_after.Goals as goal

pub returns-then-count-eq0 : goal.returns-then-count-eq0
returns-then-count-eq0 t c =
    let half = c.args.count / 2 in
    let count : half + half ≡ c.args.count = omega (arith, c.if-count-eq0.true) in
    let one = c.in_ok-half.half in
    subst (λ n. JumpsOfEach n c.args.firsts.now c.in_ok-double.double) count
    (joined_each half half c.args.firsts.now one one c.in_ok-double.double c.in_ok-half.ensures c.in_ok-half.ensures c.in_ok-double.ensures)

pub returns : goal.returns
returns t c =
    let half = c.args.count / 2 in
    let count : half + half + 1 ≡ c.args.count = omega (arith, c.if-count-eq0.false) in
    let one = c.in_ok-half.half in
    subst (λ n. IfOk c.then-else-count-eq0.result (λ jumps. JumpsOfEach n c.args.firsts.now jumps)) count
    (joined_thrice half c.args.firsts.now one c.in_ok-double.double c.then-else-count-eq0.result
    c.in_ok-half.ensures c.in_ok-double.ensures c.then-else-count-eq0.ensures)
