use Rattle.std.proofs.Common.{◌≡◌, ◌-◌, ◌^◌, ◌<◌, drop}
use Rattle.leb_bytes.specs.Signed.{first_signed}
use Rattle.leb_bytes.proofs.SignedSteps.{joined}
use Rattle.leb_bytes.proofs.read.front_signed.Given as goal

abbrev pub invariant-loop-before : goal.invariant-loop-before
invariant-loop-before l =
    record {
      left : l.shift < l.width;
      bits : l.low < 2 ^ l.shift;
      rest : first_signed l.width l.bytes ≡ joined l.low (2 ^ l.shift) (first_signed (l.width - l.shift) (drop l.before l.bytes));
    }
