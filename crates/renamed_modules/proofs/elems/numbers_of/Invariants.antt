use Rattle.std.proofs.Common.{◌≡◌, map, take}
use Rattle.renamed_modules.proofs.elems.numbers_of.Given as goal

abbrev pub invariant-funcs : goal.invariant-funcs
invariant-funcs g l = l.list.items ≡ map (g.N.Numbering.instance l.numbering).funcs (take l.func-index l.funcs)
