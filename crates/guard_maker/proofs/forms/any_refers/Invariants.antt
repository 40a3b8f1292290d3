use Rattle.std.proofs.Common.{◌≡◌, drop, nat_eq}
use Rattle.std.specs.List.{list_any}
use Rattle.replay_module_spec.specs.Fragments.{referred_funcs}
use Rattle.guard_maker.proofs.forms.any_refers.Given as goal

abbrev pub invariant-funcs : goal.invariant-funcs
invariant-funcs l =
    list_any (nat_eq l.func) (referred_funcs (drop l.own-index l.funcs))
    ≡ list_any (nat_eq l.func) (referred_funcs l.funcs)
