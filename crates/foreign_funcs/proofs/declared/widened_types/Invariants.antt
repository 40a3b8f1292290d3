use Rattle.std.proofs.Common.{◌≡◌, ◌++◌, map, take}
use Rattle.instance_spec.specs.declared.decls.Decl.{Decl}
use Rattle.foreign_funcs.proofs.declared.widened_types.Given as goal

abbrev pub invariant-decls : goal.invariant-decls
invariant-decls l = l.types.items ≡ l.«module».types ++ map (λ (d : Decl). d.ty) (take l.decl-index l.decls)
