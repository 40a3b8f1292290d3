use Rattle.std.proofs.Common.{◌≡◌}
use Rattle.std.specs.List.{range_with_len}
use Rattle.replay_gen.proofs.dispatch.labels.Given as goal

abbrev pub invariant-labels : goal.invariant-labels
invariant-labels l = l.labels.items ≡ range_with_len 0 l.label
