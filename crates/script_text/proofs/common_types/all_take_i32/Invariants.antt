use Rattle.std.proofs.Common.{◌≡◌, map, drop}
use Rattle.std.specs.List.{list_all}
use Rattle.script_text.specs.Actions.{takes_i32}
use Rattle.script_text.proofs.common_types.all_take_i32.Given as goal

abbrev pub invariant-types : goal.invariant-types
invariant-types l = list_all (takes_i32 l.number) (map (λ ty. ty.now) l.types) ≡ list_all (takes_i32 l.number) (map (λ ty. ty.now) (drop l.ty-index l.types))
