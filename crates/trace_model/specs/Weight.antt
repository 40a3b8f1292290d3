-- The weight of a tape: a bound on what a replay of it has to hold.
use Rattle.std.specs.Prelude.{ℕ, ◌+◌, length, Some, None, sum_by}
use Rattle.trace_model.specs.declared.tapes.Effect.{Effect}
use Rattle.trace_model.specs.declared.tapes.Effect.TheVariants.{Grow, Table, Bytes, Entry, Global}
use Rattle.trace_model.specs.declared.tapes.Next.{Next}
use Rattle.trace_model.specs.declared.tapes.Next.TheVariants.{Call, Return, End, Trap}
use Rattle.trace_model.specs.declared.tapes.Segment.{Segment}
use Rattle.trace_model.specs.declared.tapes.Tape.{Tape}

-- the weight of an effect: the number of its bytes, or one for an effect other than bytes
abbrev pub effect_weight : Effect → ℕ
effect_weight (Grow pages) = 1
effect_weight (Table size) = 1
effect_weight (Bytes addr bytes) = length bytes
effect_weight (Entry index func) = 1
effect_weight (Global global value) = 1

-- the weight of how control leaves: one, and one for each value that is passed
abbrev pub next_weight : Next → ℕ
next_weight (Call func args) = 1 + length args
next_weight (Return None) = 1
next_weight (Return (Some value)) = 2
next_weight End = 1
next_weight Trap = 1

-- the weight of a segment: the weights of its effects and of how control leaves
abbrev pub segment_weight : Segment → ℕ
segment_weight segment = sum_by effect_weight segment.effects + next_weight segment.next

-- the weight of a tape: the sum of the weights of its segments
abbrev pub tape_weight : Tape → ℕ
tape_weight tape = sum_by segment_weight tape.segments
