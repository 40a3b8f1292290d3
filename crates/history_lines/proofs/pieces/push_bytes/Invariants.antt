use Rattle.std.proofs.Common.{◌≡◌, ◌+◌, ◌++◌, take, vec_len, vec_capacity}
use Rattle.history_lines.proofs.pieces.push_bytes.Given as goal

-- the bytes so far are pushed, and nothing else has changed
abbrev pub invariant-bytes : goal.invariant-bytes
invariant-bytes l = record {
  items : l.out.items ≡ l.initial.out.items ++ take l.byte-index l.bytes;
  len : vec_len l.out ≡ vec_len l.initial.out + l.byte-index;
  capacity : vec_capacity l.out ≡ vec_capacity l.initial.out;
}
