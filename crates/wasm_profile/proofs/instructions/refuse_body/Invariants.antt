use Rattle.std.proofs.Common.{◌≡◌, ◌≤◌, drop}
use Rattle.wasm_syntax.specs.Profile.{refused_in}
use Rattle.wasm_profile.proofs.Numbers.{refused_from}
use Rattle.wasm_profile.proofs.instructions.refuse_body.Given as goal

abbrev pub invariant-instrs : goal.invariant-instrs
invariant-instrs l = record {
  refused : refused_in l.index l.func ≡ refused_from l.index l.number (drop l.instr-index l.func.body);
  few : l.number ≤ l.instr-index;
}
