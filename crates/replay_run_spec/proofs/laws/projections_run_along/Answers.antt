use Rattle.replay_run_spec.proofs.Projections.{shown_along}
use Rattle.replay_run_spec.proofs.laws.projections_run_along.Goals as goal

pub returns : goal.returns
returns c = shown_along
