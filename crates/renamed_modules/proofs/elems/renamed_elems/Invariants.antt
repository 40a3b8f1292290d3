use Rattle.std.proofs.Common.{◌≡◌, map, take}
use Rattle.instance_spec.specs.Widened.{renamed_elem}
use Rattle.renamed_modules.proofs.elems.renamed_elems.Given as goal

abbrev pub invariant-elems : goal.invariant-elems
invariant-elems g l = l.list.items ≡ map (renamed_elem (g.N.Numbering.instance l.numbering)) (take l.elem-index l.elems)
