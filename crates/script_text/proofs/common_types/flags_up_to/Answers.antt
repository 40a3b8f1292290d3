use Rattle.std.proofs.Common.{map, sym, arith}
use Rattle.std.specs.List.{list_all}
use Rattle.std.proofs.lemmas.List.FromFn.{map-range_with_len_more}
use Rattle.script_text.specs.Actions.{takes_i32}
use Rattle.script_text.proofs.common_types.flags_up_to.Goals as goal

pub numbers-preserved : goal.numbers-preserved
numbers-preserved c =
    rw (c.in_ok-push.ensures.items, c.all_take_i32.ensures, c.numbers.invariant)
    (sym (map-range_with_len_more (λ number. list_all (takes_i32 number) (map (λ ty. ty.now) c.args.types.now)) 0
    c.numbers.number c.numbers.number (omega arith)))
