-- The law.
use Rattle.instance_laws.proofs.Bodies.{bodies_are_renamed}
use Rattle.instance_laws.proofs.laws.bodies_are_renamed.Goals as goal

pub returns : goal.returns
returns c = bodies_are_renamed
