use Rattle.type_safety.proofs.Runs.{scripted_never_stuck, alone_never_stuck}
use Rattle.type_safety.proofs.never_stuck.Goals as goal

pub returns-clause-scripted : goal.returns-clause-scripted
returns-clause-scripted c = scripted_never_stuck c.values_fit.ensures

pub returns-clause-alone : goal.returns-clause-alone
returns-clause-alone c = alone_never_stuck c.values_fit.ensures
