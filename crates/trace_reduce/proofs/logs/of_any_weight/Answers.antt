use Rattle.std.proofs.Common.{rules, ◌≡◌, Err, subst}
use Rattle.trace_reduce.specs.Answers.{IsAnswer}
use Rattle.trace_reduce.specs.declared.faults.ReducerFault.TheVariants.{Unbalanced}
use Rattle.trace_reduce.proofs.Places.{exact_place}
use Rattle.trace_reduce.proofs.logs.of_any_weight.Goals as goal

pub returns-in-Err-Unbalanced : goal.returns-in-Err-Unbalanced
returns-in-Err-Unbalanced c =
    let is : c.args.answer ≡ Err (Unbalanced c.in-Err-Unbalanced.event) = search rules in
    λ most log few h. exact_place log c.in-Err-Unbalanced.event few (subst (IsAnswer most log) is h)
