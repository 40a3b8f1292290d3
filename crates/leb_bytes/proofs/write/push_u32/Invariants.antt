use Rattle.std.proofs.Common.{vec_len, vec_capacity}
use Rattle.leb_bytes.specs.Unsigned.{u32_bytes}
use Rattle.leb_bytes.proofs.Appended.{IsPartWritten}
use Rattle.leb_bytes.proofs.write.push_u32.Given as goal

abbrev pub invariant-bytes : goal.invariant-bytes
invariant-bytes l =
    IsPartWritten u32_bytes l.number l.rest l.fn.out.items l.out.items (vec_len l.out) (vec_capacity l.out)

abbrev pub decreases-bytes : goal.decreases-bytes
decreases-bytes l = l.rest
