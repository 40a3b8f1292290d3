use Rattle.replay_run_spec.proofs.Joined.{joined_same}
use Rattle.replay_run_spec.proofs.Tested.{effects_tested, bounds_tested}
use Rattle.replay_run_spec.proofs.laws.plain_tests_hold.Goals as goal

pub returns-clause-joined : goal.returns-clause-joined
returns-clause-joined c = joined_same

pub returns-clause-effects : goal.returns-clause-effects
returns-clause-effects c = effects_tested

pub returns-clause-bounds : goal.returns-clause-bounds
returns-clause-bounds c = bounds_tested
