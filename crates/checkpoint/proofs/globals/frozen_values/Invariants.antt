use Rattle.std.proofs.Common.{◌≡◌, take, drop}
use Rattle.checkpoint.proofs.globals.frozen_values.Given as goal

abbrev pub invariant-globals : goal.invariant-globals
invariant-globals l = l.values.items ≡ take l.place (drop l.first l.frozen.globals)
