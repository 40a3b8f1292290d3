use Rattle.history_spec.proofs.Budgets.{some_result}
use Rattle.history_spec.proofs.laws.runs_have_some_result.Goals as goal

pub returns : goal.returns
returns c = some_result
