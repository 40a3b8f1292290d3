use Rattle.std.proofs.Common.{rules}
use Rattle.trace_reduce.specs.ByteGroups.{slot_at}
use Rattle.trace_reduce.proofs.Bytes.{next_byte}
use Rattle.trace_reduce.proofs.byte_groups.take_slots.Goals as goal

pub bytes-preserved : goal.bytes-preserved
bytes-preserved c =
    next_byte c.args.from c.bytes.number c.args.bytes.now (slot_at c.args.slots.now) (slot_at c.bytes.slots)
    (slot_at c.take_byte.new.slots) c.bytes.invariant (search rules) c.take_byte.ensures.here
    c.take_byte.ensures.others
