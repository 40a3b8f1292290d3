use Rattle.std.proofs.Common.{refl}
use Rattle.history_spec.specs.Store.{pages}
use Rattle.recorder.proofs.Arms.{err_led}
use Rattle.recorder.proofs.Steps.{take_memory}
use Rattle.recorder.proofs.recording.Recording.size.Goals as goal

pub returns-then-not-sees_size-clause-ok : goal.returns-then-not-sees_size-clause-ok
returns-then-not-sees_size-clause-ok g c = (c.if-not-sees_size.ensures.not refl _ c.args.view.now, refl)

pub returns-in_err-resize-clause-err : goal.returns-in_err-resize-clause-err
returns-in_err-resize-clause-err g c = err_led c.from_residual.result (c.if-not-sees_size.ensures.may refl _ c.args.view.now)

pub returns-clause-ok : goal.returns-clause-ok
returns-clause-ok g c =
    take_memory (c.if-not-sees_size.ensures.may refl) refl refl refl (c.in_ok-resize.ensures.reports pages)
