use Rattle.std.proofs.Common.{◌≡◌, ◌+◌, ◌++◌, ℕ, List, drop}
use Rattle.trace_reduce.specs.ByteGroups.{slot_bytes}
use Rattle.trace_reduce.specs.Runs.{runs_from}
use Rattle.trace_reduce.proofs.runs.put_slots.Given as goal

abbrev pub invariant-slots : goal.invariant-slots
invariant-slots l =
    ((later : List (ℕ × ℕ)) → l.initial.runs.effects.items
    ++ runs_from l.initial.runs.start l.initial.runs.run.items (slot_bytes l.start l.slots ++ later)
    ≡ l.runs.effects.items
    ++ runs_from l.runs.start l.runs.run.items (slot_bytes l.at (drop l.slot-index l.slots) ++ later))
    × (l.at ≡ l.start + l.slot-index)
