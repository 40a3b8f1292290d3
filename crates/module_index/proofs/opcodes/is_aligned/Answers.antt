use Rattle.std.proofs.Common.{arith}
use Rattle.module_index.proofs.Alignment.{too_aligned}
use Rattle.module_index.proofs.opcodes.is_aligned.Goals as goal

pub returns-else-align-lt32 : goal.returns-else-align-lt32
returns-else-align-lt32 c = too_aligned c.args.align c.args.width (omega arith) (omega arith)
