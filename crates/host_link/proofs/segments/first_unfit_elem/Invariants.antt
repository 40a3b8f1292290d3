use Rattle.std.proofs.Common.{◌≡◌, map, drop}
use Rattle.history_spec.specs.Instantiation.{first_false}
use Rattle.host_link.specs.Link.{elem_fits_in}
use Rattle.host_link.proofs.segments.first_unfit_elem.Given as goal

abbrev pub invariant-elems : goal.invariant-elems
invariant-elems l =
    first_false 0 (map (elem_fits_in l.entries l.imported) l.elems)
    ≡ first_false l.at (map (elem_fits_in l.entries l.imported) (drop l.at l.elems))
