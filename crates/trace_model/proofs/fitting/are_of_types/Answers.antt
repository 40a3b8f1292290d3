use Rattle.trace_model.proofs.FittingLemmas.{differ_long}
use Rattle.trace_model.proofs.fitting.are_of_types.Goals as goal

pub returns-then-values-types : goal.returns-then-values-types
returns-then-values-types c = differ_long c.args.values.now c.args.types.now c.if-values-types.true
