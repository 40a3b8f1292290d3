use Rattle.std.proofs.Common.{◌≡◌, ℕ, ◌<◌}
use Rattle.shadow_memory.specs.Runs.{is_alike}
use Rattle.shadow_memory.proofs.runs.leading_count.Given as goal

abbrev pub invariant-bytes : goal.invariant-bytes
invariant-bytes l = (j : ℕ) → j < l.k → is_alike l.known l.bytes j ≡ l.alike
