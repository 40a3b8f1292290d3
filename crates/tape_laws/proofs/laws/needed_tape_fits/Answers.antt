use Rattle.tape_laws.proofs.NeededTape.{needed_tapes_fit}
use Rattle.tape_laws.proofs.laws.needed_tape_fits.Goals as goal

pub returns : goal.returns
returns c = needed_tapes_fit c.laws_of_steps.ensures c.laws_of_runs.ensures
