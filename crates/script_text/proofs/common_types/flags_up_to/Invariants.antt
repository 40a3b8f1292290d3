use Rattle.std.proofs.Common.{◌≡◌, map}
use Rattle.std.specs.List.{list_all, range_with_len}
use Rattle.script_text.specs.Actions.{takes_i32}
use Rattle.script_text.proofs.common_types.flags_up_to.Given as goal

abbrev pub invariant-numbers : goal.invariant-numbers
invariant-numbers l =
    l.flags.items ≡ map (λ number. list_all (takes_i32 number) (map (λ ty. ty.now) l.types)) (range_with_len 0 l.number)
