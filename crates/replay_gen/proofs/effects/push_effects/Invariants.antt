use Rattle.std.proofs.Common.{◌≡◌, ◌++◌, take}
use Rattle.replay_module_spec.specs.Segments.{effects_code}
use Rattle.replay_gen.proofs.effects.push_effects.Given as goal

abbrev pub invariant-effects : goal.invariant-effects
invariant-effects l = l.code.items ≡ l.fn.code.items ++ effects_code (take l.effect-index l.effects)
