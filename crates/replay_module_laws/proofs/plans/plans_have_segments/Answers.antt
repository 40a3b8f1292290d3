use Rattle.replay_module_laws.proofs.PlanCalls.{plan_has}
use Rattle.replay_module_laws.proofs.plans.plans_have_segments.Goals as goal

pub returns : goal.returns
returns c = plan_has
