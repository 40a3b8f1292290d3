use Rattle.std.proofs.Common.{◌≡◌, take}
use Rattle.std.specs.Prelude.{fold}
use Rattle.history_spec.specs.Instantiation.{with_elem}
use Rattle.shadow_tables.proofs.opening.write_elems.Given as goal

abbrev pub invariant-elems : goal.invariant-elems
invariant-elems l =
    l.entries ≡ fold (with_elem l.imported) l.initial.entries (take l.elem-index l.elems)
