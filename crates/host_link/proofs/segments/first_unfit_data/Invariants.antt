use Rattle.std.proofs.Common.{◌≡◌, map, drop}
use Rattle.history_spec.specs.Instantiation.{first_false}
use Rattle.host_link.specs.Link.{data_fits_in}
use Rattle.host_link.proofs.segments.first_unfit_data.Given as goal

abbrev pub invariant-datas : goal.invariant-datas
invariant-datas l =
    first_false 0 (map (data_fits_in l.bytes l.imported) l.datas)
    ≡ first_false l.at (map (data_fits_in l.bytes l.imported) (drop l.at l.datas))
