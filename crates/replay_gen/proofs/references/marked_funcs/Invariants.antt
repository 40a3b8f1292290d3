use Rattle.std.proofs.Common.{◌≡◌, filter, get_or, false}
use Rattle.std.specs.List.{range_with_len}
use Rattle.replay_gen.proofs.references.marked_funcs.Given as goal

abbrev pub invariant-marks : goal.invariant-marks
invariant-marks l = l.funcs.items ≡ filter (λ func. get_or l.marks func false) (range_with_len 0 l.func)
