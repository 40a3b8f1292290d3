use Rattle.std.proofs.Common.{◌≡◌}
use Rattle.replay_plan.proofs.plans.lists_of_calls.Given as goal

abbrev pub invariant-calls : goal.invariant-calls
invariant-calls l = l.lists.items ≡ l.yielded
