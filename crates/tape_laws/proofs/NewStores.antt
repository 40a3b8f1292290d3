-- The store of a newly instantiated module has all that each step keeps.
use Rattle.std.proofs.Common.{◌≡◌, Ok, refl}
use Rattle.wasm_syntax.specs.declared.modules.Module.{Module}
use Rattle.host_script.specs.declared.scripts.Supply.{Supply}
use Rattle.history_spec.specs.Store.{Store}
use Rattle.history_spec.specs.Instantiation.{instantiate}
use Rattle.record_replay_spec.specs.Known.{opening_known}
use Rattle.type_safety.specs.Stores.{IsStore}
use Rattle.type_safety.specs.Supplies.{IsSupply}
use Rattle.tape_laws.proofs.AllSteps.{opening_is_known}
use Rattle.tape_laws.proofs.HostStores.{sizes_of}
use Rattle.tape_laws.proofs.KeptStores.{new_declared, IsKept}

pub new_kept : (m : Module) (supply : Supply) (store : Store) → IsStore m store → IsSupply m supply
    → instantiate m supply ≡ Ok store → IsKept m (opening_known store) store
new_kept m supply store is matches opens =
    record {
      is = is;
      of = opening_is_known store (sizes_of m store is);
      declared = new_declared m supply store matches opens;
      immutable = λ at ty there fixed. refl;
    }
