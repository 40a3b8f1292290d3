use Rattle.recorder.proofs.Arms.{err_led}
use Rattle.recorder.proofs.Steps.{take_pre}
use Rattle.recorder.proofs.recording.Recording.pre.Goals as goal

pub returns-in_err-event-clause-err : goal.returns-in_err-event-clause-err
returns-in_err-event-clause-err g c = err_led c.from_residual.result (c.in-Some.ensures.1 _ c.args._view.now)

pub returns-in_err-call-clause-err : goal.returns-in_err-call-clause-err
returns-in_err-call-clause-err g c = err_led c.from_residual-in_err-call.result (c.in-Some.ensures.1 _ c.args._view.now)

pub returns-clause-ok : goal.returns-clause-ok
returns-clause-ok g c =
    take_pre c.in-Some.ensures.0 c.in-Some.ensures.1 c.in_ok-event.ensures.ok c.in_ok-call.ensures.ok
