use Rattle.trace_reduce.proofs.Taken.{part_more}
use Rattle.trace_reduce.proofs.logs.push_copy.Goals as goal

pub returns : goal.returns
returns c =
    part_more c.args.reducer.now c.push.new.self c.args.event.now c.in_ok-copy.copy c.push.result c.in_ok-copy.ensures
    c.push.ensures.ok c.push.ensures.imports c.push.ensures.most
