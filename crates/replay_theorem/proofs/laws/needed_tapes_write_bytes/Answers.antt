use Rattle.replay_theorem.proofs.Whole.{needed_tapes_write_bytes}
use Rattle.replay_theorem.proofs.laws.needed_tapes_write_bytes.Goals as goal

pub returns : goal.returns
returns c = needed_tapes_write_bytes c.laws_of_steps.ensures c.laws_of_runs.ensures
