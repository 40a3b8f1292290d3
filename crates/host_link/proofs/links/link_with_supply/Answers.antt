use Rattle.std.proofs.Common.{◌≡◌, Ok, Err, subst}
use Rattle.wasm_syntax.specs.Validity.{IsValid}
use Rattle.history_spec.specs.Instantiation.{instantiate}
use Rattle.host_link.proofs.Chosen.{supplied_there}
use Rattle.host_link.proofs.Supplied.{links_by, starts_by}
use Rattle.host_link.proofs.links.link_with_supply.Goals as goal

pub instantiate-requires : goal.instantiate-requires
instantiate-requires c =
    (supplied_there c.args.checked.now _ c.args.script.now c.in_ok-supply.supply c.module-module.ensures.same
    c.requires.supported
    (c.typed_store.ensures.supplied c.args.checked.now c.args.script.now c.in_ok-supply.supply c.requires.fits)
    c.in_ok-supply.ensures.ok).1

pub returns-in-Ok-clause-ok : goal.returns-in-Ok-clause-ok
returns-in-Ok-clause-ok c =
    links_by c.args.checked.now _ c.args.script.now c.in_ok-supply.supply (Ok c.in-Ok.store)
    c.module-module.ensures.same c.in_ok-supply.ensures.ok c.in-Ok.ensures.ok

pub returns-in-Err-clause-err : goal.returns-in-Err-clause-err
returns-in-Err-clause-err c = λ other.
    links_by c.args.checked.now _ c.args.script.now c.in_ok-supply.supply (Err c.in-Err.fault)
    c.module-module.ensures.same c.in_ok-supply.ensures.ok (c.in-Err.ensures.err other)

pub returns-in-Ok-clause-typed : goal.returns-in-Ok-clause-typed
returns-in-Ok-clause-typed c = λ bytes.
    let same = c.module-module.ensures.same in
    let there = supplied_there c.args.checked.now _ c.args.script.now c.in_ok-supply.supply c.module-module.ensures.same
    c.requires.supported
    (c.typed_store.ensures.supplied c.args.checked.now c.args.script.now c.in_ok-supply.supply c.requires.fits)
    c.in_ok-supply.ensures.ok in
    c.typed_store.ensures.store c.args.checked.now c.in_ok-supply.supply c.in-Ok.store
    (record {
      valid = subst IsValid same c.module-module.ensures.valid;
      supported = c.requires.supported;
      bytes = bytes;
    })
    there.0 (subst (λ x. instantiate x c.in_ok-supply.supply ≡ Ok c.in-Ok.store) same c.in-Ok.ensures.ok)

pub returns-in-Ok-clause-opened : goal.returns-in-Ok-clause-opened
returns-in-Ok-clause-opened c =
    starts_by c.args.checked.now c.args.script.now (Ok c.in-Ok.store) (returns-in-Ok-clause-ok c)

pub returns-in-Err-clause-not_opened : goal.returns-in-Err-clause-not_opened
returns-in-Err-clause-not_opened c = λ other.
    starts_by c.args.checked.now c.args.script.now (Err c.in-Err.fault) (returns-in-Err-clause-err c other)
