use Rattle.std.proofs.Common.{◌≡◌, map, take}
use Rattle.instance_spec.specs.Widened.{renamed_func}
use Rattle.renamed_modules.proofs.funcs.renamed_funcs.Given as goal

abbrev pub invariant-funcs : goal.invariant-funcs
invariant-funcs g l = l.list.items ≡ map (renamed_func (g.N.Numbering.instance l.numbering)) (take l.func-index l.funcs)
