use Rattle.std.proofs.Common.{◌≡◌, ℕ, ◌<◌, ◌≤◌, true}
use Rattle.shadow_memory.specs.KnownBytes.{is_touched}
use Rattle.shadow_memory.specs.Shadow.{AreSame}
use Rattle.shadow_memory.proofs.runs.touch_all.Given as goal

abbrev pub invariant-places : goal.invariant-places
invariant-places l = record {
  touched : (place : ℕ) → l.first ≤ place → place < l.place → is_touched l.kept place ≡ true;
  same : AreSame l.initial.kept.bytes l.kept.bytes;
  frozen : l.kept.frozen ≡ l.initial.kept.frozen;
}
