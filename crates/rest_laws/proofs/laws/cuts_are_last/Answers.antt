-- The law.
use Rattle.rest_laws.proofs.LastSegments.{cuts_are_last}
use Rattle.rest_laws.proofs.laws.cuts_are_last.Goals as goal

pub returns : goal.returns
returns c = cuts_are_last
