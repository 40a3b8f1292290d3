use Rattle.std.proofs.Common.{◌≡◌, ◌++◌, replicate, None}
use Rattle.wasm_syntax.specs.declared.instructions.Instr.TheVariants.{Block}
use Rattle.replay_gen.proofs.dispatch.push_blocks.Given as goal

abbrev pub invariant-count : goal.invariant-count
invariant-count l = l.code.items ≡ l.fn.code.items ++ replicate l.counter (Block None)
