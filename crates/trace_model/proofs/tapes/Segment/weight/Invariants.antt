use Rattle.std.proofs.Common.{◌≡◌, ◌^◌, ◌-◌, ◌+◌, take}
use Rattle.std.specs.Prelude.{min, sum_by}
use Rattle.trace_model.specs.Weight.{effect_weight, next_weight}
use Rattle.trace_model.proofs.tapes.Segment.weight.Given as goal

abbrev pub invariant-effects : goal.invariant-effects
invariant-effects l =
    l.weight ≡ min (sum_by effect_weight (take l.effect-index l.self.effects) + next_weight l.self.next) (2 ^ 64 - 1)
