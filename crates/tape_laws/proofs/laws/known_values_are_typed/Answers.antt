use Rattle.tape_laws.proofs.KnownValues.{known_values_are_typed}
use Rattle.tape_laws.proofs.laws.known_values_are_typed.Goals as goal

pub returns : goal.returns
returns c = known_values_are_typed c.laws_of_steps.ensures c.laws_of_runs.ensures
