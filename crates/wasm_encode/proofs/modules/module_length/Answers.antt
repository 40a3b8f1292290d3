use Rattle.std.proofs.Common.{arith}
use Rattle.wasm_encode.proofs.ModuleLemmas.{encoding_length}
use Rattle.wasm_encode.proofs.modules.module_length.Goals as goal

pub returns : goal.returns
returns c = omega (arith, encoding_length c.args.module.now)
