use Rattle.std.proofs.Common.{◌≡◌, ◌++◌, replicate}
use Rattle.wasm_syntax.specs.declared.instructions.Instr.TheVariants.{Drop}
use Rattle.replay_gen.proofs.segments.push_drops_of.Given as goal

abbrev pub invariant-count : goal.invariant-count
invariant-count l = l.code.items ≡ l.fn.code.items ++ replicate l.counter Drop
