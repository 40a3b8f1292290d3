use Rattle.generated_code_laws.proofs.Whole.{replays_within}
use Rattle.generated_code_laws.proofs.laws.replays_are_within_bound.Goals as goal

pub returns : goal.returns
returns c = replays_within c.laws_of_replays.ensures
