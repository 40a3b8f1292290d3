use Rattle.std.proofs.Common.{◌≡◌, ◌++◌, length}
use Rattle.rest_spec.specs.StateModules.{state_globals}
use Rattle.checkpoint.proofs.globals.state_globals.Given as goal

-- there are as many values as globals, and the globals made and those still to make are all
abbrev pub invariant-globals : goal.invariant-globals
invariant-globals l = record {
  long : length l.globals ≡ length l.values;
  made : l.made.items ++ state_globals l.globals l.values ≡ state_globals l.fn.globals l.fn.values;
}

abbrev pub decreases-globals : goal.decreases-globals
decreases-globals l = length l.globals
