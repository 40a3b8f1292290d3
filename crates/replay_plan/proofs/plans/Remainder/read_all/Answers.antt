use Rattle.replay_plan.proofs.Reading.{read_on}
use Rattle.replay_plan.proofs.plans.Remainder.read_all.Goals as goal

pub segments-preserved : goal.segments-preserved
segments-preserved c =
    read_on c.segments.segments.items c.pop.new.self.items c.in-Some.segment c.segments.self c.take_segment.new.self _
    c.in-Some.ensures.items c.in_ok-take_segment.ensures c.segments.invariant
