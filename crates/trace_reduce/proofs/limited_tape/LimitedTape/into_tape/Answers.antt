use Rattle.std.proofs.Common.{rules, ◌<◌}
use Rattle.trace_reduce.proofs.Answers.{heavy_answer}
use Rattle.trace_reduce.proofs.limited_tape.LimitedTape.into_tape.Goals as goal

pub returns-then-self : goal.returns-then-self
returns-then-self c =
    let over : c.args.self.most < c.args.self.weight = search rules in
    λ segments h. heavy_answer c.args.self segments h over
