use Rattle.plan_laws.proofs.OwnedPlans.{plans_owned}
use Rattle.plan_laws.proofs.plans_are_owned.Goals as goal

pub returns : goal.returns
returns c = plans_owned
