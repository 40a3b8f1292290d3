use Rattle.tape_laws.proofs.NeededTape.{runs_have_one_needed_tape}
use Rattle.tape_laws.proofs.laws.run_has_one_needed_tape.Goals as goal

pub returns : goal.returns
returns c = runs_have_one_needed_tape c.laws_of_steps.ensures c.laws_of_runs.ensures c.needed_tape_is_one.ensures
