use Rattle.type_safety.proofs.Supplies.{supply_fits}
use Rattle.type_safety.proofs.NewStores.{store_fits}
use Rattle.type_safety.proofs.typed_store.Goals as goal

pub returns-clause-supplied : goal.returns-clause-supplied
returns-clause-supplied c = supply_fits

pub returns-clause-store : goal.returns-clause-store
returns-clause-store c = λ m supply store runnable matches made.
    store_fits m supply store runnable.valid runnable.supported runnable.bytes matches made
