use Rattle.trace_reduce.proofs.Answers.{exact}
use Rattle.trace_reduce.proofs.laws.answers_are_exact.Goals as goal

pub returns : goal.returns
returns c = exact c.log_tape_is_one.ensures
