use Rattle.std.proofs.Common.{◌≡◌, ◌++◌, take}
use Rattle.std.specs.Prelude.{flat_map}
use Rattle.history_spec.specs.Line.{line}
use Rattle.trace_format.specs.Text.{effect_text}
use Rattle.trace_format.proofs.texts.put_effects.Given as goal

abbrev pub invariant-effects : goal.invariant-effects
invariant-effects l =
    l.out.items ≡ l.fn.out.items ++ flat_map (λ effect. line (effect_text effect)) (take l.effect-index l.effects)
