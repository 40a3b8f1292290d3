use Rattle.std.proofs.Common.{sym, subst, inr, ◌≤◌, length, arith}
use Rattle.trace_format.specs.Answers.{IsEndFault}
use Rattle.trace_format.specs.Reading.{first_close}
use Rattle.trace_format.proofs.EndLemmas.{close_read, close_shorter, more_is}
use Rattle.trace_format.proofs.headers.end_of_tape.Goals as goal

pub returns-in-Some : goal.returns-in-Some
returns-in-Some c =
    let taken = c.in-Some.ensures.cases in
    let few : length c.in-Some.more.now ≤ length c.args.bytes.now =
    omega (arith, close_shorter c.args.left.now c.in-Some.more.now taken.1, c.requires) in
    subst (λ f. IsEndFault first_close c.args.bytes.now c.args.left.now f) (sym c.fault_before.ensures)
    (inr (more_is first_close c.args.bytes.now c.args.left.now c.in-Some.more.now _
    (close_read c.args.left.now c.in-Some.more.now taken.0 taken.1) (omega (arith, c.in-Some.len_at_least)) few))
