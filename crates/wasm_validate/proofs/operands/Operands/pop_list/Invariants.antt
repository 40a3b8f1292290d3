use Rattle.std.proofs.Common.{◌≡◌, ◌≤◌, length, reverse, take}
use Rattle.wasm_syntax.specs.KnownStacks.{pops}
use Rattle.wasm_validate.proofs.operands.Operands.pop_list.Given as goal

abbrev pub invariant-types : goal.invariant-types
invariant-types l = record {
  within : l.left ≤ length l.types;
  outer : l.self.outer ≡ l.initial.self.outer;
  here : pops (reverse (take l.left l.types)) l.self.here ≡ pops (reverse l.types) l.initial.self.here;
}

abbrev pub decreases-types : goal.decreases-types
decreases-types l = l.left
