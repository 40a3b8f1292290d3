use Rattle.tape_laws.proofs.Whole.{needed_tape_replays}
use Rattle.tape_laws.proofs.laws.needed_tape_replays.Goals as goal

pub returns : goal.returns
returns c = needed_tape_replays c.laws_of_steps.ensures c.laws_of_runs.ensures
