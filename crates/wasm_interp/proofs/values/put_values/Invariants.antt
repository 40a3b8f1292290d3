use Rattle.std.proofs.Common.{◌≡◌, ◌+◌, drop}
use Rattle.flat_steps.specs.FlatStep.{with_values}
use Rattle.wasm_interp.proofs.values.put_values.Given as goal

abbrev pub invariant-each : goal.invariant-each
invariant-each l = (l.slot ≡ l.fn.at + l.value-index) × (with_values l.slots l.slot (drop l.value-index l.values) ≡ with_values l.fn.slots l.fn.at l.values)
