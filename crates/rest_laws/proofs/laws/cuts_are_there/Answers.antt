-- The law.
use Rattle.rest_laws.proofs.Calls.{cuts_are_there}
use Rattle.rest_laws.proofs.laws.cuts_are_there.Goals as goal

pub returns : goal.returns
returns c = cuts_are_there
