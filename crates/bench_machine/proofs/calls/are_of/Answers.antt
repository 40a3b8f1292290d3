use Rattle.bench_machine.proofs.Arguments.{differ_long}
use Rattle.bench_machine.proofs.calls.are_of.Goals as goal

pub returns-then-types-values : goal.returns-then-types-values
returns-then-types-values c = differ_long c.args.types.now c.args.values.now c.if-types-values.true
