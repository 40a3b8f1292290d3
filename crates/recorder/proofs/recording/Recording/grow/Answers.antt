use Rattle.std.proofs.Common.{refl}
use Rattle.history_spec.specs.Store.{pages}
use Rattle.history_spec.specs.Instruction.{bits_at}
use Rattle.record_replay_spec.specs.Logs.{found_by_growth}
use Rattle.recorder.proofs.Arms.{err_led}
use Rattle.recorder.proofs.Steps.{take_memory}
use Rattle.recorder.proofs.recording.Recording.grow.Goals as goal

pub returns-then-not-grows-clause-ok : goal.returns-then-not-grows-clause-ok
returns-then-not-grows-clause-ok g c = (c.if-not-grows.ensures.not refl _ c.args.view.now, refl)

pub returns-in_err-resize-clause-err : goal.returns-in_err-resize-clause-err
returns-in_err-resize-clause-err g c = err_led c.from_residual.result (c.if-not-grows.ensures.may refl _ c.args.view.now)

pub returns-clause-ok : goal.returns-clause-ok
returns-clause-ok g c =
    take_memory (c.if-not-grows.ensures.may refl) refl refl refl
    (c.in_ok-resize.ensures.reports (λ there. found_by_growth (bits_at c.args.args.now 0) (pages there)))
