use Rattle.std.proofs.Common.{◌≡◌, ◌++◌, map, take}
use Rattle.module_index.proofs.index.add_funcs.Given as goal

abbrev pub invariant-funcs : goal.invariant-funcs
invariant-funcs l = l.indices.items ≡ l.initial.indices.items ++ map (λ f. f.ty) (take l.func-index l.funcs)
