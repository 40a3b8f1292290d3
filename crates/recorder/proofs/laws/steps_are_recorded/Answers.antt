use Rattle.recorder.proofs.Runs.{steps_are_recorded}
use Rattle.recorder.proofs.laws.steps_are_recorded.Goals as goal

pub returns : goal.returns
returns g c = steps_are_recorded g.S.EventSink.has_taken
