use Rattle.std.proofs.Common.{◌≡◌, ℕ, take}
use Rattle.std.specs.Option.{option_or}
use Rattle.record_replay_spec.specs.Known.{byte_among}
use Rattle.trace_reduce.specs.ByteGroups.{slot_at}
use Rattle.trace_reduce.proofs.byte_groups.take_slots.Given as goal

abbrev pub invariant-bytes : goal.invariant-bytes
invariant-bytes l =
    (place : ℕ) → slot_at l.slots place
    ≡ option_or (slot_at l.initial.slots place) (byte_among l.from (take l.number l.bytes) place)
