use Rattle.std.proofs.Common.{rules, ◌≡◌, true, false}
use Rattle.trace_model.specs.Balance.{ends_so}
use Rattle.trace_reduce.specs.Reducer.{most_of}
use Rattle.trace_reduce.proofs.Taken.{unbalanced_answer, wrong_answer, tape_answer}
use Rattle.trace_reduce.proofs.reducer.Reducer.finish.Goals as goal

pub returns-in-Unbalanced : goal.returns-in-Unbalanced
returns-in-Unbalanced c =
    λ taken h. unbalanced_answer c.args.self c.in-Unbalanced.event taken c.args.outcome c.in-Unbalanced.is h

pub returns-then-not-ends_so : goal.returns-then-not-ends_so
returns-then-not-ends_so c =
    let wrong : ends_so c.args.self.imports c.args.self.balance c.args.outcome ≡ false = search rules in
    λ taken h. wrong_answer c.args.self taken c.args.outcome c.in-InOrder.is wrong h

pub returns : goal.returns
returns c =
    let right : ends_so c.args.self.imports c.args.self.balance c.args.outcome ≡ true = search rules in
    λ taken h. tape_answer c.args.self taken c.args.outcome (most_of c.args.self) c.finish.result c.in-InOrder.is right
    c.finish.ensures.window c.finish.ensures.host h
