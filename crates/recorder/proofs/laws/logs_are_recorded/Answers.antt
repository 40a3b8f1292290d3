use Rattle.recorder.proofs.Runs.{logs_are_recorded}
use Rattle.recorder.proofs.laws.logs_are_recorded.Goals as goal

pub returns : goal.returns
returns g c = logs_are_recorded g.S.EventSink.has_taken
