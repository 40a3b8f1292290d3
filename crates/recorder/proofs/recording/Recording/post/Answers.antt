use Rattle.std.proofs.Common.{refl}
use Rattle.recorder.proofs.Arms.{err_led}
use Rattle.recorder.proofs.Steps.{take_end}
use Rattle.recorder.proofs.recording.Recording.post.Goals as goal

pub returns-then-not-ends-clause-ok : goal.returns-then-not-ends-clause-ok
returns-then-not-ends-clause-ok g c = (c.if-not-ends.ensures.not refl _ c.args.view.now, refl)

pub returns-in_err-report_post-clause-err : goal.returns-in_err-report_post-clause-err
returns-in_err-report_post-clause-err g c = err_led c.from_residual.result (c.if-not-ends.ensures.may refl _ c.args.view.now)

pub returns-in_err-notice-clause-err : goal.returns-in_err-notice-clause-err
returns-in_err-notice-clause-err g c = err_led c.from_residual-in_err-notice.result (c.if-not-ends.ensures.may refl _ c.args.view.now)

pub returns-clause-ok : goal.returns-clause-ok
returns-clause-ok g c =
    take_end c.report_post.new.sink (c.if-not-ends.ensures.may refl) refl refl refl c.pending.ensures c.in_ok-report_post.ensures
    c.in_ok-notice.ensures.noticed c.in_ok-notice.ensures.reported c.close.ensures
