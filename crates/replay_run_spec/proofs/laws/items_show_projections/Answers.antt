use Rattle.replay_run_spec.proofs.Histories.{items_hold, items_show}
use Rattle.replay_run_spec.proofs.laws.items_show_projections.Goals as goal

pub returns-clause-held : goal.returns-clause-held
returns-clause-held c = items_hold

pub returns-clause-shown : goal.returns-clause-shown
returns-clause-shown c = items_show
