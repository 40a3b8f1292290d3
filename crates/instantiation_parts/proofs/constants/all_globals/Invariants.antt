use Rattle.std.proofs.Common.{◌≡◌, ◌++◌, map, take}
use Rattle.history_spec.specs.Instantiation.{global_value}
use Rattle.instantiation_parts.proofs.constants.all_globals.Given as goal

abbrev pub invariant-globals : goal.invariant-globals
invariant-globals l = l.values.items ≡ l.imported ++ map (global_value l.imported) (take l.global-index l.globals)
