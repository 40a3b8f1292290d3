use Rattle.recorder.proofs.Arms.{err_led}
use Rattle.recorder.proofs.Steps.{take_enter}
use Rattle.recorder.proofs.recording.Recording.enter.Goals as goal

pub returns-in_err-report_entry-clause-err : goal.returns-in_err-report_entry-clause-err
returns-in_err-report_entry-clause-err g c = err_led c.from_residual.result (c.in-Some.ensures.1 _ c.args.view.now)

pub returns-in_err-notice-clause-err : goal.returns-in_err-notice-clause-err
returns-in_err-notice-clause-err g c = err_led c.from_residual-in_err-notice.result (c.in-Some.ensures.1 _ c.args.view.now)

pub returns-in_err-enter-clause-err : goal.returns-in_err-enter-clause-err
returns-in_err-enter-clause-err g c = err_led c.from_residual-in_err-enter.result (c.in-Some.ensures.1 _ c.args.view.now)

pub returns-clause-ok : goal.returns-clause-ok
returns-clause-ok g c =
    take_enter c.report_entry.new.sink c.in-Some.ensures.0 c.in-Some.ensures.1 c.pending.ensures c.in_ok-report_entry.ensures
    c.in_ok-notice.ensures.noticed c.in_ok-notice.ensures.reported c.in_ok-enter.ensures.ok
