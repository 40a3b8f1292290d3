use Rattle.checkpoint.proofs.GlobalValues.{one_value}
use Rattle.checkpoint.proofs.globals.frozen_values.Goals as goal

pub globals-preserved : goal.globals-preserved
globals-preserved c =
    one_value c.args.frozen.now.globals c.globals.values.items _ c.args.first c.globals.place _
    c.in_ok-frozen_value.ensures c.globals.invariant c.in_ok-push.ensures.items
