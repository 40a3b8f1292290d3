use Rattle.history_spec.proofs.Budgets.{one_at_most}
use Rattle.history_spec.proofs.laws.runs_have_one_result_at_most.Goals as goal

pub returns : goal.returns
returns c = one_at_most
