use Rattle.tape_laws.proofs.RunReads.{runs_read_what_is_there}
use Rattle.tape_laws.proofs.laws.runs_read_what_is_there.Goals as goal

pub returns : goal.returns
returns c = runs_read_what_is_there c.laws_of_steps.ensures c.laws_of_runs.ensures
