-- What the store of a module with a supply is made of (Core 1.0, 4.5.4).
use Rattle.std.specs.Prelude.{◌≡◌, ◌++◌, All, IsTrue, Ok, map, option_map}
use Rattle.wasm_syntax.specs.declared.modules.Module.{Module}
use Rattle.host_script.specs.declared.scripts.Supply.{Supply}
use Rattle.history_spec.specs.Store.{Store}
use Rattle.history_spec.specs.Instantiation.{data_fits, elem_fits, global_value, instantiate, memory_limits, new_memory, new_store, new_table, table_limits, with_datas, with_elems}

-- memory and table are new ones with all segments written, which fit; globals are those supplied and those declared
pub record HasParts (m : Module) (supply : Supply) (store : Store) : Type 0 where
  pub memory : store.memory
      ≡ option_map (with_datas supply.globals m.datas) (option_map new_memory (memory_limits m supply))
  pub table : store.table
      ≡ option_map (with_elems supply.globals m.elems) (option_map new_table (table_limits m supply))
  pub globals : store.globals ≡ supply.globals ++ map (global_value supply.globals) m.globals
  pub datas_fit : All (λ segment. IsTrue (data_fits supply.globals (new_store m supply) segment)) m.datas
  pub elems_fit : All (λ segment. IsTrue (elem_fits supply.globals (new_store m supply) segment)) m.elems

-- each store that a module is instantiated with has these parts
abbrev pub InstantiatedStoresHaveParts : Type 0
InstantiatedStoresHaveParts =
    (m : Module) (supply : Supply) (store : Store) → instantiate m supply ≡ Ok store → HasParts m supply store
