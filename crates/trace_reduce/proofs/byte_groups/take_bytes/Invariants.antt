use Rattle.std.proofs.Common.{◌≡◌, ◌+◌, ℕ, length}
use Rattle.std.specs.Option.{option_or}
use Rattle.record_replay_spec.specs.Known.{byte_among}
use Rattle.trace_reduce.specs.ByteGroups.{byte_at}
use Rattle.trace_reduce.proofs.byte_groups.take_bytes.Given as goal

abbrev pub invariant-left : goal.invariant-left
invariant-left l =
    ((q : ℕ) → option_or (byte_at l.groups.items q) (byte_among l.at l.left q)
    ≡ option_or (byte_at l.initial.groups.items q) (byte_among l.addr l.bytes q))
    × (l.at + length l.left ≡ l.addr + length l.bytes)

abbrev pub decreases-left : goal.decreases-left
decreases-left l = length l.left
