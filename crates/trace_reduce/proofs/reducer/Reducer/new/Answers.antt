use Rattle.trace_reduce.proofs.Taken.{none_taken}
use Rattle.trace_reduce.proofs.reducer.Reducer.new.Goals as goal

pub returns-clause-taken : goal.returns-clause-taken
returns-clause-taken c =
    none_taken c.args.imports c.new.result c.new-2.result c.new.ensures c.new-2.ensures.begun
