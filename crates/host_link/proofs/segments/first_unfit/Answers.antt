use Rattle.std.proofs.Common.{Some, None, ap, ◌∙◌}
use Rattle.history_spec.specs.Instantiation.{first_unfit, new_store}
use Rattle.host_link.proofs.Places.{elem_unfit, data_unfit}
use Rattle.host_link.proofs.segments.first_unfit.Goals as goal

pub returns-in-Some : goal.returns-in-Some
returns-in-Some c =
    let m = c.args.module.now in
    let store = new_store m c.args.supply.now in
    elem_unfit m c.as_slice-imported.result.now store c.as_slice-elems.result.now c.as_slice-elems.ensures
    c.table_size.result c.in-Some.at c.table_size.ensures c.in-Some.ensures
    ∙ ap (λ imported. first_unfit m imported store) c.as_slice-imported.ensures

pub returns-in_err-at : goal.returns-in_err-at
returns-in_err-at c =
    let m = c.args.module.now in
    let store = new_store m c.args.supply.now in
    c.from_residual.ensures
    ∙ data_unfit m c.as_slice-imported.result.now store c.as_slice-elems.result.now c.as_slice-elems.ensures
    c.table_size.result c.memory_size.result c.as_slice.result.now None c.as_slice.ensures c.table_size.ensures
    c.in_default.ensures c.memory_size.ensures c.in_err-at.ensures
    ∙ ap (λ imported. first_unfit m imported store) c.as_slice-imported.ensures

pub returns : goal.returns
returns c =
    let m = c.args.module.now in
    let store = new_store m c.args.supply.now in
    data_unfit m c.as_slice-imported.result.now store c.as_slice-elems.result.now c.as_slice-elems.ensures
    c.table_size.result c.memory_size.result c.as_slice.result.now (Some c.in_ok-at.at) c.as_slice.ensures
    c.table_size.ensures c.in_default.ensures c.memory_size.ensures c.in_ok-at.ensures
    ∙ ap (λ imported. first_unfit m imported store) c.as_slice-imported.ensures
