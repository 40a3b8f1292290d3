use Rattle.std.proofs.Common.{◌≡◌, ◌++◌, drop}
use Rattle.host_script.specs.Supply.{given_values}
use Rattle.host_supply.proofs.supply.given_values.Given as goal

abbrev pub invariant-given : goal.invariant-given
invariant-given l = l.values.items ++ given_values (drop l.value-index l.given) ≡ given_values l.given
