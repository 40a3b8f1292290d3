use Rattle.recorder.proofs.Arms.{err_led}
use Rattle.recorder.proofs.AccessArguments.{known_typed}
use Rattle.recorder.proofs.Steps.{take_gget}
use Rattle.recorder.proofs.recording.Recording.gget.Goals as goal

pub find_global-requires : goal.find_global-requires
find_global-requires g c = known_typed c.in-Some.ensures.0 c.args.self.now.tables.globals c.args.self.now.typed

pub returns-in_err-find_global-clause-err : goal.returns-in_err-find_global-clause-err
returns-in_err-find_global-clause-err g c = err_led c.from_residual.result (c.in-Some.ensures.1 _ c.args._view.now)

pub returns-clause-ok : goal.returns-clause-ok
returns-clause-ok g c =
    take_gget c.in-Some.ensures.0 c.in-Some.ensures.1 c.in_ok-find_global.ensures.entries
    c.in_ok-find_global.ensures.reports
