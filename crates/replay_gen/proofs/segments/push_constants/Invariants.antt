use Rattle.std.proofs.Common.{◌≡◌, ◌++◌, map, take}
use Rattle.wasm_syntax.specs.declared.instructions.Instr.TheVariants.{Const}
use Rattle.replay_gen.proofs.segments.push_constants.Given as goal

abbrev pub invariant-values : goal.invariant-values
invariant-values l = l.code.items ≡ l.fn.code.items ++ map Const (take l.value-index l.values)
