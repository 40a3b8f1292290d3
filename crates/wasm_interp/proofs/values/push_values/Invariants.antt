use Rattle.std.proofs.Common.{◌≡◌, ◌+◌, ◌++◌, drop}
use Rattle.flat_steps.specs.FlatStep.{values_at}
use Rattle.wasm_interp.proofs.values.push_values.Given as goal

abbrev pub invariant-each : goal.invariant-each
invariant-each l =
    (l.slot ≡ l.fn.at + l.ty-index)
    × (l.values.items ++ values_at l.slots l.slot (drop l.ty-index l.types) ≡ l.fn.values.items ++ values_at l.slots l.fn.at l.types)
