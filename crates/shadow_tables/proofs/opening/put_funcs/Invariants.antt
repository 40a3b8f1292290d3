use Rattle.std.proofs.Common.{◌≡◌, map, take, Some}
use Rattle.shadow_tables.proofs.opening.put_funcs.Given as goal

abbrev pub invariant-funcs : goal.invariant-funcs
invariant-funcs l = take l.at l.entries ≡ map (λ func. Some func) (take l.at l.funcs)
