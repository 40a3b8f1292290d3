use Rattle.std.proofs.Common.{◌≡◌, [], replicate}
use Rattle.replay_plan.proofs.plans.Remainder.new.Given as goal

abbrev pub invariant-imports : goal.invariant-imports
invariant-imports l = l.calls.items ≡ replicate l.counter []
