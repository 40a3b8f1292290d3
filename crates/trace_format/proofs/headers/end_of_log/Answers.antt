use Rattle.std.proofs.Common.{sym, subst, inr, ◌≤◌, length, arith}
use Rattle.trace_format.specs.Answers.{IsEndFault}
use Rattle.trace_format.specs.Reading.{first_outcome}
use Rattle.trace_format.proofs.EndLemmas.{more_is, outcome_shorter}
use Rattle.trace_format.proofs.headers.end_of_log.Goals as goal

pub fault_before-requires : goal.fault_before-requires
fault_before-requires c =
    omega (arith, outcome_shorter c.args.left.now c.in-Some.more.now _ c.in-Some.ensures, c.requires)

pub returns-in-Some : goal.returns-in-Some
returns-in-Some c =
    let few : length c.in-Some.more.now ≤ length c.args.bytes.now =
    omega (arith, outcome_shorter c.args.left.now c.in-Some.more.now _ c.in-Some.ensures, c.requires) in
    subst (λ f. IsEndFault first_outcome c.args.bytes.now c.args.left.now f) (sym c.fault_before.ensures)
    (inr (more_is first_outcome c.args.bytes.now c.args.left.now c.in-Some.more.now _ c.in-Some.ensures
    (omega (arith, c.in-Some.len_at_least)) few))
