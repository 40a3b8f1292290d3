-- The law.
use Rattle.instance_laws.proofs.WidenedAccepted.{widened_are_accepted}
use Rattle.instance_laws.proofs.widened_laws.widened_are_accepted.Goals as goal

pub returns : goal.returns
returns c = widened_are_accepted c.widened_are_valid.ensures
