use Rattle.std.proofs.Common.{◌≡◌, reverse, take}
use Rattle.wasm_syntax.specs.KnownStacks.{push_types}
use Rattle.wasm_validate.proofs.operands.Operands.push_list.Given as goal

abbrev pub invariant-types : goal.invariant-types
invariant-types l = record {
  outer : l.self.outer ≡ l.initial.self.outer;
  here : l.self.here ≡ push_types (reverse (take l.ty-index l.types)) l.initial.self.here;
}
