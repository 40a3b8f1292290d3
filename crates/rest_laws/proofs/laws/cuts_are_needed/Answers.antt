-- The law.
use Rattle.rest_laws.proofs.Cuts.{cuts_are_needed}
use Rattle.rest_laws.proofs.laws.cuts_are_needed.Goals as goal

pub returns : goal.returns
returns c = cuts_are_needed
