use Rattle.std.proofs.Common.{◌≡◌, ◌++◌, replicate}
use Rattle.wasm_syntax.specs.declared.instructions.Instr.TheVariants.{LocalSet}
use Rattle.guard_maker.proofs.fronts.push_keep.Given as goal

abbrev pub invariant-results : goal.invariant-results
invariant-results l = l.code.items ≡ l.fn.code.items ++ replicate l.counter (LocalSet l.local)
