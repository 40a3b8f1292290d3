use Rattle.std.proofs.Common.{◌≡◌, ◌++◌, map, take}
use Rattle.module_index.proofs.index.add_globals.Given as goal

abbrev pub invariant-globals : goal.invariant-globals
invariant-globals l = l.types.items ≡ l.initial.types.items ++ map (λ g. g.ty) (take l.global-index l.globals)
