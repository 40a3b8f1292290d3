use Rattle.std.proofs.Common.{◌≡◌, ◌-◌, ◌*◌, ◌^◌, ◌<◌, ◌≤◌, drop}
use Rattle.leb_bytes.specs.Unsigned.{first_unsigned}
use Rattle.leb_bytes.proofs.UnsignedSteps.{joined}
use Rattle.leb_bytes.proofs.read.front_u32.Given as goal

abbrev pub invariant-loop-before : goal.invariant-loop-before
invariant-loop-before l =
    record {
      turns : l.shift ≡ 7 * l.before;
      within : l.shift ≤ 28;
      bits : l.low < 2 ^ l.shift;
      rest : first_unsigned 32 l.bytes ≡ joined l.low (2 ^ l.shift) (first_unsigned (32 - l.shift) (drop l.before l.bytes));
    }
