use Rattle.worked_hooks.proofs.WorkedRecordings.{worked_recordings}
use Rattle.worked_hooks.proofs.worked_runs_are_recorded.Goals as goal

pub returns : goal.returns
returns c = worked_recordings c.tested_tapes_are_of_logs.ensures c.examples_have_their_needed_tapes.ensures
