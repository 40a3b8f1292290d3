use Rattle.std.proofs.Common.{◌≡◌, ◌≤◌, length, drop}
use Rattle.leb_bytes.specs.Unsigned.{u32_bytes}
use Rattle.hook_insert.specs.Forms.{left_after}
use Rattle.hook_insert.proofs.forms.after_u32.Given as goal

abbrev pub invariant-bytes : goal.invariant-bytes
invariant-bytes l =
    record {
      left : left_after (u32_bytes l.number) (drop l.at l.bytes) ≡ left_after (u32_bytes l.rest) (drop l.next l.bytes);
      within : l.next ≤ length l.bytes;
    }

abbrev pub decreases-bytes : goal.decreases-bytes
decreases-bytes l = l.rest
