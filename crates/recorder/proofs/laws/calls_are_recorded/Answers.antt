use Rattle.recorder.proofs.Runs.{calls_are_recorded}
use Rattle.recorder.proofs.laws.calls_are_recorded.Goals as goal

pub returns : goal.returns
returns g c = calls_are_recorded g.S.EventSink.has_taken
