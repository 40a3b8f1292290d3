-- The law.
use Rattle.rest_laws.proofs.FittingCuts.{cuts_fit}
use Rattle.rest_laws.proofs.laws.cuts_fit.Goals as goal

pub returns : goal.returns
returns c = cuts_fit
