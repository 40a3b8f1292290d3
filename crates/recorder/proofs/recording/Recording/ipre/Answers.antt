use Rattle.recorder.proofs.Steps.{take_ipre}
use Rattle.recorder.proofs.recording.Recording.ipre.Goals as goal

pub returns-clause-ok : goal.returns-clause-ok
returns-clause-ok g c =
    take_ipre c.find_callee.new.sink c.known_size.ensures c.in-Some.ensures c.in_ok-find_callee.ensures.reports
    c.in_ok-find_callee.ensures.entries c.in_ok-event.ensures.ok c.in_ok-call.ensures.ok
