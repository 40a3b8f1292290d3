use Rattle.generated_code_laws.proofs.Whole.{replays_make, replays_show, replays_show_outcomes}
use Rattle.generated_code_laws.proofs.laws.replays_show_runs.Goals as goal

pub returns-clause-histories : goal.returns-clause-histories
returns-clause-histories c = replays_show c.laws_of_replays.ensures

pub returns-clause-outcomes : goal.returns-clause-outcomes
returns-clause-outcomes c = replays_show_outcomes c.laws_of_replays.ensures

pub returns-clause-effects : goal.returns-clause-effects
returns-clause-effects c = replays_make c.laws_of_replays.ensures
