use Rattle.trace_reduce.proofs.Answers.{exact_reduction}
use Rattle.trace_reduce.proofs.laws.reductions_are_exact.Goals as goal

pub returns : goal.returns
returns c = exact_reduction c.log_tape_is_one.ensures
