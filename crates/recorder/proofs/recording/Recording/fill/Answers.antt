use Rattle.std.proofs.Common.{refl}
use Rattle.recorder.proofs.Arms.{err_led}
use Rattle.recorder.proofs.AccessArguments.{fill_is}
use Rattle.recorder.proofs.Steps.{take_memory}
use Rattle.recorder.proofs.recording.Recording.fill.Goals as goal

pub returns-in_err-fill-clause-err : goal.returns-in_err-fill-clause-err
returns-in_err-fill-clause-err g c = err_led c.from_residual.result (c.in-Some.ensures.1 _ c.args.view.now)

pub returns-clause-ok : goal.returns-clause-ok
returns-clause-ok g c =
    take_memory c.in-Some.ensures.1 (fill_is c.args.view.now c.in-Some.ensures.0) refl refl c.in_ok-fill.ensures.reports
