use Rattle.std.proofs.Common.{rules}
use Rattle.trace_reduce.proofs.Groups.{front_is}
use Rattle.trace_reduce.proofs.byte_groups.take_front.Goals as goal

pub returns : goal.returns
returns c =
    front_is c.args.groups.now.items _ c.slots_of.result c.args.at c.in-Ok.number _ c.min-count.result c.args.bytes.now
    c.split_at.result.0.now c.split_at.result.1.now (search rules) (search rules) (search rules)
    c.split_at.ensures.front c.split_at.ensures.back c.split_at.ensures.front_len c.slots_of.ensures (search rules)
