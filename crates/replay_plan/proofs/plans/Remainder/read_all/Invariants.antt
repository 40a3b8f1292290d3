use Rattle.std.proofs.Common.{◌≡◌, length}
use Rattle.replay_plan.specs.Reading.{left_from}
use Rattle.replay_plan.proofs.plans.Remainder.read_all.Given as goal

-- the segments still to read, in front of those that were read, are all
abbrev pub invariant-segments : goal.invariant-segments
invariant-segments l = left_from l.segments.items l.self ≡ left_from l.fn.segments.items l.fn.self

abbrev pub decreases-segments : goal.decreases-segments
decreases-segments l = length l.segments.items
