use Rattle.std.proofs.Common.{◌≡◌, Ok, Err, ap, subst}
use Rattle.history_spec.specs.Instantiation.{instantiate, new_store, store_unless, with_segments}
use Rattle.host_link.proofs.Chosen.{supplied_there}
use Rattle.host_link.proofs.Supplied.{links_by, starts_by}
use Rattle.host_link.proofs.links.linked_supply.Goals as goal

pub check_segments-requires : goal.check_segments-requires
check_segments-requires c =
    (supplied_there c.args.checked.now _ c.args.script.now c.in_ok-given.given c.module-module.ensures.same
    c.requires.supported
    (c.typed_store.ensures.supplied c.args.checked.now c.args.script.now c.in_ok-given.given c.requires.fits)
    c.in_ok-given.ensures.ok).1

pub returns-in-Ok-clause-links : goal.returns-in-Ok-clause-links
returns-in-Ok-clause-links c =
    let m = c.module-module.result.now in
    let supply = c.in_ok-given.given in
    let store = with_segments m supply.globals (new_store m supply) in (
      store,
      subst (λ x. instantiate x supply ≡ Ok store) c.module-module.ensures.same
          (ap (λ place. store_unless place store) c.in-Ok.ensures.fit),
    )

pub returns-in-Err-clause-err : goal.returns-in-Err-clause-err
returns-in-Err-clause-err c = λ other.
    links_by c.args.checked.now _ c.args.script.now c.in_ok-given.given (Err c.in-Err.fault)
    c.module-module.ensures.same c.in_ok-given.ensures.ok (c.in-Err.ensures.err other)

pub returns-in-Err-clause-not_opened : goal.returns-in-Err-clause-not_opened
returns-in-Err-clause-not_opened c = λ other.
    starts_by c.args.checked.now c.args.script.now (Err c.in-Err.fault) (returns-in-Err-clause-err c other)
