use Rattle.std.proofs.Common.{◌≡◌, drop}
use Rattle.std.specs.List.{list_all}
use Rattle.trace_model.specs.Fitting.{effect_fits}
use Rattle.trace_model.proofs.fitting.all_fit.Given as goal

abbrev pub invariant-effects : goal.invariant-effects
invariant-effects l =
    list_all (effect_fits l.scope) l.effects ≡ list_all (effect_fits l.scope) (drop l.effect-index l.effects)
