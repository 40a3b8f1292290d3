-- A module that links with a script.
use Rattle.std.specs.Prelude.{◌≡◌, Ok}
use Rattle.wasm_syntax.specs.declared.modules.Module.{Module}
use Rattle.host_script.specs.declared.scripts.Script.{Script}
use Rattle.host_script.specs.declared.scripts.Supply.{Supply}
use Rattle.host_script.specs.Supply.{supply_of}
use Rattle.history_spec.specs.Instantiation.{instantiate}
use Rattle.history_spec.specs.Store.{Store}

-- the script gives this supply for the module's imports, and the module's run begins with this store
pub record IsLinked (m : Module) (script : Script) (supply : Supply) (store : Store) : Type 0 where
  pub supplied : supply_of m script ≡ Ok supply
  pub begins : instantiate m supply ≡ Ok store
