use Rattle.std.proofs.Common.{◌≡◌, drop, filter_map, nat_eq}
use Rattle.std.specs.List.{list_any}
use Rattle.replay_module_spec.specs.Fragments.{referred_func}
use Rattle.guard_maker.proofs.forms.body_refers.Given as goal

abbrev pub invariant-instrs : goal.invariant-instrs
invariant-instrs l =
    list_any (nat_eq l.func) (filter_map referred_func (drop l.instr-index l.body))
    ≡ list_any (nat_eq l.func) (filter_map referred_func l.body)
