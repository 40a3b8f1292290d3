use Rattle.std.proofs.Common.{◌≡◌, take}
use Rattle.checkpoint.proofs.segment_copies.copied_effects.Given as goal

abbrev pub invariant-effects : goal.invariant-effects
invariant-effects l = l.copies.items ≡ take l.effect-index l.effects
