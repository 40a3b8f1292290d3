use Rattle.std.proofs.Common.{◌≡◌, ◌-◌, ◌≤◌, replicate}
use Rattle.shadow_memory.specs.Shadow.{HasTaken}
use Rattle.recorder.proofs.bytes.take_same.Given as goal

abbrev pub invariant-parts : goal.invariant-parts
invariant-parts l = record {
  within : l.done ≤ l.count;
  taken : HasTaken l.initial.memory l.addr (replicate l.done l.byte) l.memory;
  frozen : l.memory.frozen ≡ l.initial.memory.frozen;
}

abbrev pub decreases-parts : goal.decreases-parts
decreases-parts l = l.count - l.done
