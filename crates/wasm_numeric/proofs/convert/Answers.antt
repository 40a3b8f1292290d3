-- What keeps its bits has as many of them or more afterwards.
use Rattle.std.proofs.Common.{arith}
use Rattle.std.proofs.Math.Pow.{pow_mono}
use Rattle.wasm_numeric.proofs.OpcodeTable.{convert_result}
use Rattle.wasm_numeric.proofs.convert.Goals as goal

pub returns-in_default-clause-fits : goal.returns-in_default-clause-fits
returns-in_default-clause-fits c =
    omega (arith, c.requires.operand_fits, pow_mono ((convert_result c.args.op c.requires.kind).keeps (λ wraps. grind (arith, wraps, c.in_default))))
