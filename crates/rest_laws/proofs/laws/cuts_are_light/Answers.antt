-- The law.
use Rattle.rest_laws.proofs.LastSegments.{cuts_are_light}
use Rattle.rest_laws.proofs.laws.cuts_are_light.Goals as goal

pub returns : goal.returns
returns c = cuts_are_light
