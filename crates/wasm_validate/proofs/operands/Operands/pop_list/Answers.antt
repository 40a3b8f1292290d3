use Rattle.std.proofs.Common.{reverse, take}
use Rattle.wasm_validate.proofs.StackLemmas.{pops-where_anything}
use Rattle.wasm_validate.proofs.operands.Operands.pop_list.Goals as goal

pub returns-then-is_anything-clause-here : goal.returns-then-is_anything-clause-here
returns-then-is_anything-clause-here c =
    pops-where_anything (reverse (take c.types.left c.args.types.now)) (reverse c.args.types.now) c.types.self.here
    c.args.self.now.here (c.is_anything.ensures.0 c.if-is_anything.true) c.types.invariant.here
