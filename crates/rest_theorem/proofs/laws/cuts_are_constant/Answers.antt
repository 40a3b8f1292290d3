-- The law.
use Rattle.rest_theorem.proofs.PlayableCuts.{cuts_are_constant}
use Rattle.rest_theorem.proofs.laws.cuts_are_constant.Goals as goal

pub returns : goal.returns
returns c = cuts_are_constant c.cuts_are_last.ensures
