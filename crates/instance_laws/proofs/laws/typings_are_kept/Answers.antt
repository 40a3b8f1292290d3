-- The law.
use Rattle.instance_laws.proofs.Typings.{typings_are_kept}
use Rattle.instance_laws.proofs.laws.typings_are_kept.Goals as goal

pub returns : goal.returns
returns c = typings_are_kept
