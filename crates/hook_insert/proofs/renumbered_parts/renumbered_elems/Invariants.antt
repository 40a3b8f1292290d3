use Rattle.std.proofs.Common.{◌≡◌, map, take}
use Rattle.record_replay_spec.specs.Instrumented.{renumbered_elem}
use Rattle.hook_insert.proofs.renumbered_parts.renumbered_elems.Given as goal

abbrev pub invariant-elems : goal.invariant-elems
invariant-elems l = l.list.items ≡ map (renumbered_elem l.imports) (take l.elem-index l.elems)
