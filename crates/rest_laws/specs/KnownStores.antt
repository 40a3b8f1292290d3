-- The law of known stores: the store that holds just what is known before a top-level call is a well-typed store of the
-- module.
use Rattle.std.specs.Prelude.{◌≡◌, ℕ, ◌*◌, List, [], length, false, Some, Ok, option_map, slice_get}
use Rattle.wasm_syntax.specs.declared.limits.TheConstants.{PAGE_SIZE}
use Rattle.wasm_syntax.specs.declared.signatures.GlobalType.{GlobalType}
use Rattle.wasm_syntax.specs.declared.modules.Module.{Module}
use Rattle.wasm_syntax.specs.Index.{all_globals}
use Rattle.host_script.specs.declared.scripts.Script.{Script}
use Rattle.host_script.specs.declared.scripts.Supply.{Supply}
use Rattle.host_script.specs.Fits.{Fits}
use Rattle.host_script.specs.Supply.{supply_of}
use Rattle.history_spec.specs.declared.entries.Entry.{Entry}
use Rattle.history_spec.specs.Store.{Memory, Table, Store}
use Rattle.history_spec.specs.Instantiation.{instantiate, table_length}
use Rattle.history_spec.specs.Run.{all_one, program_of, start_in_store, run_from}
use Rattle.record_replay_spec.specs.Observations.{run_observations}
use Rattle.record_replay_spec.specs.Known.{Known, opening_known, pages_of}
use Rattle.rest_spec.specs.KnownStates.{bytes_below, entries_below, globals_below}
use Rattle.rest_spec.specs.KnownBefore.{known_before}
use Rattle.rest_spec.specs.Rests.{rest_of}
use Rattle.rest_laws.specs.Replays.{HoldsKnown, HaveSameMaxima}
use Rattle.type_safety.specs.Stores.{IsStore}
use Rattle.type_safety.specs.Supplies.{IsRunnable}

-- the memory with the known size and bytes; its maximum stays
abbrev pub known_memory : Known → Memory → Memory
known_memory known memory = record memory { bytes = bytes_below (known.pages * PAGE_SIZE) known }

-- the table with the known size and entries; its maximum stays
abbrev pub known_table : Known → Table → Table
known_table known table = record table { entries = entries_below known.entries known }

-- the store of a module that holds just what is known: it has a memory and a table if the first store does, with the
-- known sizes and the first store's maxima, and each byte, entry and global is the known one
abbrev pub known_store : Module → Store → Known → Store
known_store m store known =
    record {
      memory = option_map (known_memory known) store.memory;
      table = option_map (known_table known) store.table;
      globals = globals_below (length (all_globals m)) known;
    }

-- What is known of a run from this store makes a store that is well typed for the module. It holds what is known, its
-- memory and its table have the known sizes, 0 without one, it has the maxima of the run's first store, and it has that
-- store's values of the immutable globals.
pub record IsKnownStore (m : Module) (store : Store) (known : Known) : Type 0 where
  pub typed : IsStore m (known_store m store known)
  pub holds : HoldsKnown known (known_store m store known)
  pub pages : pages_of (known_store m store known).memory ≡ known.pages
  pub entries : table_length (known_store m store known).table ≡ known.entries
  pub maxima : HaveSameMaxima store (known_store m store known)
  pub immutable : (at : ℕ) (ty : GlobalType) → slice_get (all_globals m) at ≡ Some ty → ty.mutable ≡ false
      → slice_get (known_store m store known).globals at ≡ slice_get store.globals at

-- for each module that can be run, and each script that fits it and links with it: if the run's history so far has a
-- rest from a top-level call on, what is known before this call makes a well-typed store
abbrev pub KnownStoresAreTyped : Type 0
KnownStoresAreTyped =
    (m : Module) (script : Script) (supply : Supply) (store : Store) (count number : ℕ) (rest : List Entry)
    (known : Known)
    → IsRunnable m → Fits m script → supply_of m script ≡ Ok supply → instantiate m supply ≡ Ok store
    → rest_of (run_from (program_of m script) all_one (start_in_store m script store) count).history number 0
    ≡ Some rest
    → known_before number 0 (opening_known store) []
    (run_observations (program_of m script) (start_in_store m script store) count) ≡ Some known
    → IsKnownStore m store known
