use Rattle.checkpoint.proofs.FrozenRuns.{runs_are_frozen}
use Rattle.checkpoint.proofs.freezers.runs_are_frozen.Goals as goal

pub returns : goal.returns
returns g c = runs_are_frozen g.S.EventSink.has_taken c.steps_are_recorded.ensures
