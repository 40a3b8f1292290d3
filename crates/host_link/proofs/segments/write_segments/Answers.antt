use Rattle.host_link.proofs.Places.{elems_fit, datas_fit}
use Rattle.host_link.proofs.segments.write_segments.Goals as goal

pub write_elems-requires : goal.write_elems-requires
write_elems-requires c =
    elems_fit c.args.module.now c.args.imported.now c.args.store.now c.as_slice.result.now c.as_slice.ensures c.requires

pub write_datas-requires : goal.write_datas-requires
write_datas-requires c =
    datas_fit c.args.module.now c.args.imported.now c.args.store.now c.as_slice.result.now c.as_slice.ensures
    c.as_slice-2.result.now c.write_elems.new.store c.as_slice-2.ensures c.write_elems.ensures c.requires
