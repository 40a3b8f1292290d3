use Rattle.std.proofs.Common.{◌≡◌, ℕ, ◌-◌, ◌<◌, ◌≤◌, length}
use Rattle.shadow_memory.specs.Runs.{is_known}
use Rattle.shadow_memory.proofs.runs.known_count.Given as goal

abbrev pub invariant-pages : goal.invariant-pages
invariant-pages l = record {
  within : l.count ≤ length l.bytes;
  alike : (k : ℕ) → k < l.count → is_known l.kept.bytes l.addr l.bytes k ≡ l.known;
}

abbrev pub decreases-pages : goal.decreases-pages
decreases-pages l = length l.bytes - l.count
