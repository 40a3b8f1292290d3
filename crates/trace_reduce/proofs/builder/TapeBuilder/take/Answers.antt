use Rattle.std.proofs.Common.{refl}
use Rattle.trace_reduce.proofs.Segments.{host_begun, finds_taken}
use Rattle.trace_reduce.proofs.builder.TapeBuilder.take.Goals as goal

pub returns-in_ok-close_window-in-Begins-clause-mark : goal.returns-in_ok-close_window-in-Begins-clause-mark
returns-in_ok-close_window-in-Begins-clause-mark c =
    host_begun c.args.self.now c.close_window.new.self _ c.args.turn c.in-Begins.origin c.in-Begins.is
    c.in_ok-close_window-in-Begins.ensures.closes refl refl refl refl

pub returns-in_ok-take-in-Finds-clause-mark : goal.returns-in_ok-take-in-Finds-clause-mark
returns-in_ok-take-in-Finds-clause-mark c =
    finds_taken c.args.self.now _ c.args.turn c.in-Finds.effect c.in-Finds.is c.in_ok-take-in-Finds.ensures refl refl refl
