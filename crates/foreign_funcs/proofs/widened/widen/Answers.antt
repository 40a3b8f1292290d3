use Rattle.std.proofs.Common.{ap₂, ◌∙◌}
use Rattle.instance_spec.specs.Widened.{widened}
use Rattle.foreign_funcs.proofs.widened.widen.Goals as goal

pub returns : goal.returns
returns c = c.new.ensures ∙ c.in_ok-wide.ensures ∙ ap₂ widened c.«module-original».ensures.same c.as_slice.ensures
