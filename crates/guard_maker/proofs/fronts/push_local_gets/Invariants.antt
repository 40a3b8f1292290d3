use Rattle.std.proofs.Common.{◌≡◌, ◌++◌, map}
use Rattle.std.specs.List.{range_with_len}
use Rattle.wasm_syntax.specs.declared.instructions.Instr.TheVariants.{LocalGet}
use Rattle.guard_maker.proofs.fronts.push_local_gets.Given as goal

abbrev pub invariant-locals : goal.invariant-locals
invariant-locals l = l.code.items ≡ l.fn.code.items ++ map LocalGet (range_with_len l.first l.local)
