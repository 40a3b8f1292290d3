use Rattle.std.proofs.Common.{rules}
use Rattle.trace_reduce.proofs.Segments.{window_closed}
use Rattle.trace_reduce.proofs.builder.TapeBuilder.close_window.Goals as goal

pub returns-clause-closes : goal.returns-clause-closes
returns-clause-closes c =
    window_closed c.args.self.now
    (record {
      tape = c.push.new.self;
      origin = c.args.self.now.origin;
      next = c.take.new.self;
      firsts = c.new.result;
    })
    c.in-Some.next c.in_ok-effects.effects (search rules) c.in_ok-effects.ensures (search rules) c.new.ensures
    c.in_ok-push.ensures.more
