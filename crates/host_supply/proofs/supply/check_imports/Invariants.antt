use Rattle.std.proofs.Common.{◌≡◌, ◌≤◌, drop}
use Rattle.host_script.specs.Supply.{first_fault}
use Rattle.host_supply.proofs.supply.check_imports.Given as goal

abbrev pub invariant-imports : goal.invariant-imports
invariant-imports l =
    (l.globals ≤ l.index)
    × (first_fault l.script l.imports 0 0 ≡ first_fault l.script (drop l.index l.imports) l.index l.globals)
