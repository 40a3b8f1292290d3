use Rattle.worked_histories.proofs.Histories.{worked_histories}
use Rattle.worked_histories.proofs.examples_have_their_histories.Goals as goal

pub returns : goal.returns
returns c = worked_histories
