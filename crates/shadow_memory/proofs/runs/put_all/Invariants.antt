use Rattle.std.proofs.Common.{◌≡◌, ◌-◌, ◌≤◌, length, take}
use Rattle.shadow_memory.specs.Shadow.{AreWritten}
use Rattle.shadow_memory.proofs.runs.put_all.Given as goal

abbrev pub invariant-pages : goal.invariant-pages
invariant-pages l = record {
  within : l.done ≤ length l.bytes;
  written : AreWritten l.initial.kept.bytes l.addr (take l.done l.bytes) l.kept.bytes;
  touched : l.kept.touched ≡ l.initial.kept.touched;
  frozen : l.kept.frozen ≡ l.initial.kept.frozen;
}

abbrev pub decreases-pages : goal.decreases-pages
decreases-pages l = length l.bytes - l.done
