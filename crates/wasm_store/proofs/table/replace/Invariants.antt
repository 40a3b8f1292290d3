use Rattle.std.proofs.Common.{◌≡◌, map, take, Some}
use Rattle.wasm_store.proofs.table.replace.Given as goal

abbrev pub invariant-loop-at : goal.invariant-loop-at
invariant-loop-at l = take l.at l.part ≡ map (λ func. Some func) (take l.at l.funcs)
