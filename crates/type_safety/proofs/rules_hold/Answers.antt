use Rattle.type_safety.proofs.Runs.{has_rule, action_done}
use Rattle.type_safety.proofs.rules_hold.Goals as goal

pub returns-clause-instructions : goal.returns-clause-instructions
returns-clause-instructions c = has_rule c.values_fit.ensures

pub returns-clause-actions : goal.returns-clause-actions
returns-clause-actions c = action_done
