-- The law.
use Rattle.rest_laws.proofs.Calls.{rests_are_there}
use Rattle.rest_laws.proofs.laws.rests_are_there.Goals as goal

pub returns : goal.returns
returns c = rests_are_there
