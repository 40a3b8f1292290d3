use Rattle.std.proofs.Common.{sym, subst}
use Rattle.r3_reduce.specs.TapeFiles.{IsTaken}
use Rattle.r3_reduce.proofs.TakenEvents.{log_taken, ok_pair}
use Rattle.r3_reduce.proofs.tape_files.read_events.Goals as goal

pub returns-in-Ok : goal.returns-in-Ok
returns-in-Ok c =
    subst (λ reducer. IsTaken c.args.bytes.now c.in_ok-digest.digest reducer c.in-Ok.outcome)
    (sym c.into_reducer.ensures)
    (log_taken c.args.bytes.now c.in_ok-digest.digest c.in_ok-digest.imports c.new-sink.result c.log_events.new.sink
    c.in-Ok.outcome c.requires
    (λ other number begins. ok_pair c.in_ok-digest.digest other c.in_ok-digest.imports number
    (c.in_ok-digest.ensures.only other number begins))
    c.new-sink.ensures.taken c.new-sink.ensures.imports c.new-sink.ensures.most c.in-Ok.ensures.found)
