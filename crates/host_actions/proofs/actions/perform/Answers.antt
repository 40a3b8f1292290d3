use Rattle.std.proofs.Common.{Ok, Err, refl, subst}
use Rattle.host_script.specs.declared.scripts.Action.TheVariants.{Write, Copy, SetTable, SetGlobal, Grow, GrowTable}
use Rattle.host_actions.specs.declared.actions.ActionEnd.TheVariants.{Enters}
use Rattle.host_actions.specs.declared.actions.ActionFault.TheVariants.{Fault}
use Rattle.host_actions.specs.Does.{Does}
use Rattle.host_actions.proofs.Answering.{does_so, addresses_so, calls_so}
use Rattle.host_actions.proofs.actions.perform.Goals as goal

pub returns-in-Write : goal.returns-in-Write
returns-in-Write c code args own at =
    let old = c.args.store.now in
    let new = c.write.new.store in
    let to = c.in-Write.to in
    let here = addresses_so args c.args.addresses c.args.action.now (Write to c.in-Write.bytes) c.in-Write.is at in
    does_so code old new args c.write.result c.args.action.now (Write to c.in-Write.bytes) c.in-Write.is
    (subst (λ bytes. Does code args (Write to bytes) c.write.result old new) c.as_slice.ensures
    (c.write.ensures code args to here))

pub returns-in-Copy : goal.returns-in-Copy
returns-in-Copy c code args own at =
    let same = Copy c.in-Copy.to c.in-Copy.source c.in-Copy.count in
    let here = addresses_so args c.args.addresses c.args.action.now same c.in-Copy.is at in
    does_so code c.args.store.now c.copy.new.store args c.copy.result c.args.action.now same c.in-Copy.is
    (c.copy.ensures code args c.in-Copy.to c.in-Copy.source here.0 here.1)

pub returns-in-SetTable : goal.returns-in-SetTable
returns-in-SetTable c code args own at =
    does_so code c.args.store.now c.set_table.new.store args c.set_table.result c.args.action.now
    (SetTable c.in-SetTable.index c.in-SetTable.func) c.in-SetTable.is (c.set_table.ensures code args)

pub returns-in-SetGlobal : goal.returns-in-SetGlobal
returns-in-SetGlobal c code args own at =
    does_so code c.args.store.now c.set_global.new.store args c.set_global.result c.args.action.now
    (SetGlobal c.in-SetGlobal.global c.in-SetGlobal.value) c.in-SetGlobal.is (c.set_global.ensures code args)

pub returns-in-Grow : goal.returns-in-Grow
returns-in-Grow c code args own at =
    does_so code c.args.store.now c.grow.new.store args c.grow.result c.args.action.now (Grow c.in-Grow.pages)
    c.in-Grow.is (c.grow.ensures code args)

pub returns-in-GrowTable : goal.returns-in-GrowTable
returns-in-GrowTable c code args own at =
    does_so code c.args.store.now c.grow_table.new.store args c.grow_table.result c.args.action.now
    (GrowTable c.in-GrowTable.entries) c.in-GrowTable.is (c.grow_table.ensures code args)

pub returns-in-Ok : goal.returns-in-Ok
returns-in-Ok c code args own at =
    calls_so code c.args.store.now args (Ok (Enters c.in-Ok.func)) c.args.action.now c.in-CallTable.index
    c.in-CallTable.args _ c.in-CallTable.is c.as_slice-in-CallTable.ensures (c.in-Ok.ensures.ok code args own, refl)

pub returns-in-Err : goal.returns-in-Err
returns-in-Err c code args own at =
    calls_so code c.args.store.now args (Err (Fault c.in-Err.kind)) c.args.action.now c.in-CallTable.index
    c.in-CallTable.args _ c.in-CallTable.is c.as_slice-in-CallTable.ensures (c.in-Err.ensures.err code args own, refl)
