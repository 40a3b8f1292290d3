use Rattle.std.proofs.Common.{◌≡◌, map, take}
use Rattle.rest_spec.specs.StateModules.{with_min}
use Rattle.checkpoint.proofs.state_modules.all_with_min.Given as goal

abbrev pub invariant-limits : goal.invariant-limits
invariant-limits l = l.made.items ≡ map (with_min l.size) (take l.limits-index l.fn.limits)
