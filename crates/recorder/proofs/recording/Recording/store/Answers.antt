use Rattle.std.proofs.Common.{refl}
use Rattle.recorder.proofs.Arms.{err_led}
use Rattle.recorder.proofs.AccessArguments.{store_is}
use Rattle.recorder.proofs.Steps.{take_memory}
use Rattle.recorder.proofs.recording.Recording.store.Goals as goal

pub returns-in_default-clause-ok : goal.returns-in_default-clause-ok
returns-in_default-clause-ok g c = (c.in_default.ensures _ c.args.view.now, refl)

pub returns-in_err-store-clause-err : goal.returns-in_err-store-clause-err
returns-in_err-store-clause-err g c = err_led c.from_residual.result (c.in-Some.ensures.2 _ c.args.view.now)

pub returns-clause-ok : goal.returns-clause-ok
returns-clause-ok g c =
    take_memory c.in-Some.ensures.2 (store_is c.args.view.now c.in-Some.ensures.0 c.in-Some.ensures.1)
    refl refl c.in_ok-store.ensures.reports
