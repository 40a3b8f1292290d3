use Rattle.std.proofs.Common.{◌≡◌, replicate}
use Rattle.replay_module_spec.specs.Fragments.{counter}
use Rattle.replay_gen.proofs.parts.counters.Given as goal

abbrev pub invariant-counters : goal.invariant-counters
invariant-counters l = l.counters.items ≡ replicate l.counter counter
