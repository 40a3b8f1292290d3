use Rattle.std.proofs.Common.{refl}
use Rattle.plan_laws.proofs.worked_owners_hold.Goals as goal

pub returns : goal.returns
returns c = record { owners = refl; plan = refl; plan_from_end = refl; steps = refl; steps_from_end = refl }
