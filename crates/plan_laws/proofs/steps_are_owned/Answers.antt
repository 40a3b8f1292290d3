use Rattle.plan_laws.proofs.OwnedSteps.{steps_owned}
use Rattle.plan_laws.proofs.steps_are_owned.Goals as goal

pub returns : goal.returns
returns c = steps_owned
