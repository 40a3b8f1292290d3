use Rattle.recorder.proofs.Arms.{err_led}
use Rattle.recorder.proofs.Steps.{take_arg}
use Rattle.recorder.proofs.recording.Recording.arg.Goals as goal

pub returns-in_err-report-clause-err : goal.returns-in_err-report-clause-err
returns-in_err-report-clause-err g c = err_led c.from_residual.result (c.in-Some.ensures _ c.args._view.now)

pub returns-clause-ok : goal.returns-clause-ok
returns-clause-ok g c = take_arg c.in-Some.value c.in-Some.ensures c.in_ok-report.ensures.ok
