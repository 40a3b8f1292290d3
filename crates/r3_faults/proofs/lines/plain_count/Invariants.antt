use Rattle.std.proofs.Common.{◌≡◌, take}
use Rattle.r3_faults.specs.Lines.{escaped}
use Rattle.r3_faults.proofs.lines.plain_count.Given as goal

abbrev pub invariant-loop-count : goal.invariant-loop-count
invariant-loop-count l = escaped (take l.count l.text) ≡ take l.count l.text
