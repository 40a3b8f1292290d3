use Rattle.std.proofs.Common.{vec_len, vec_capacity}
use Rattle.std.specs.Int.Signed.{mag}
use Rattle.leb_bytes.specs.Signed.{s64_bytes}
use Rattle.leb_bytes.proofs.Appended.{IsPartWritten}
use Rattle.leb_bytes.proofs.write.push_i64.Given as goal

abbrev pub invariant-bytes : goal.invariant-bytes
invariant-bytes l =
    IsPartWritten s64_bytes l.number l.rest l.fn.out.items l.out.items (vec_len l.out) (vec_capacity l.out)

abbrev pub decreases-bytes : goal.decreases-bytes
decreases-bytes l = mag l.rest
