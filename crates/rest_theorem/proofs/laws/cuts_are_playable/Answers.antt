-- The law.
use Rattle.rest_theorem.proofs.PlayableCuts.{cuts_are_playable}
use Rattle.rest_theorem.proofs.laws.cuts_are_playable.Goals as goal

pub returns : goal.returns
returns c = cuts_are_playable c.cuts_are_last.ensures c.cuts_are_light.ensures c.cuts_fit.ensures
