use Rattle.std.proofs.Common.{◌≡◌, ◌^◌, ◌-◌, take}
use Rattle.std.specs.Prelude.{min, sum_by}
use Rattle.trace_model.specs.Weight.{segment_weight}
use Rattle.trace_model.proofs.tapes.Tape.weight.Given as goal

abbrev pub invariant-segments : goal.invariant-segments
invariant-segments l = l.weight ≡ min (sum_by segment_weight (take l.segment-index l.self.segments)) (2 ^ 64 - 1)
