use Rattle.std.proofs.Common.{◌≡◌, ◌++◌, drop, map}
use Rattle.guarded_module_spec.specs.Fronts.{one_local}
use Rattle.guard_maker.proofs.fronts.locals_of.Given as goal

-- the locals made and those still to make are all
abbrev pub invariant-types : goal.invariant-types
invariant-types l = l.locals.items ++ map one_local (drop l.ty-index l.types) ≡ map one_local l.types
