use Rattle.std.proofs.Common.{◌≡◌, map, drop}
use Rattle.std.specs.List.{list_all}
use Rattle.script_text.specs.Texts.{returns}
use Rattle.script_text.proofs.common_types.all_return.Given as goal

abbrev pub invariant-types : goal.invariant-types
invariant-types l = list_all (returns l.value) (map (λ ty. ty.now) l.types) ≡ list_all (returns l.value) (map (λ ty. ty.now) (drop l.ty-index l.types))
