-- What is known of a table and of globals.
use Rattle.std.specs.Prelude.{◌≡◌, ℕ, List, Option}
use Rattle.wasm_syntax.specs.declared.values.Val.{Val}
use Rattle.history_spec.specs.Store.{Store}
use Rattle.wasm_store.specs.Calls.{entries_in}

-- the known entries, in the number that the table is known to have, and the known globals
pub record Tables : Type 0 where
  pub entries : List (Option ℕ)
  pub globals : List Val

-- the entries and globals of a store are known
pub record IsOpening (store : Store) (tables : Tables) : Type 0 where
  pub entries : tables.entries ≡ entries_in store
  pub globals : tables.globals ≡ store.globals
