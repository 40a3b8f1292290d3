-- Laws of opened state modules: a state module begins in the store whose state it has.
use Rattle.std.specs.Prelude.{◌≡◌, ℕ, List, [], length, Option, Some, None, Ok, false, slice_get}
use Rattle.wasm_syntax.specs.declared.signatures.GlobalType.{GlobalType}
use Rattle.wasm_syntax.specs.declared.modules.Module.{Module}
use Rattle.wasm_syntax.specs.Index.{all_globals}
use Rattle.host_script.specs.declared.scripts.Script.{Script}
use Rattle.host_script.specs.declared.scripts.Supply.{Supply}
use Rattle.host_script.specs.Fits.{Fits}
use Rattle.host_script.specs.Supply.{supply_of}
use Rattle.history_spec.specs.declared.entries.Entry.{Entry}
use Rattle.history_spec.specs.Store.{Memory, Table, Store}
use Rattle.history_spec.specs.Instantiation.{instantiate}
use Rattle.history_spec.specs.Run.{all_one, program_of, start_in_store, run_from}
use Rattle.record_replay_spec.specs.Observations.{run_observations}
use Rattle.record_replay_spec.specs.Known.{Known, opening_known}
use Rattle.rest_spec.specs.Rests.{rest_of}
use Rattle.rest_spec.specs.KnownBefore.{known_before}
use Rattle.rest_spec.specs.KnownStates.{KnownState, state_of_known}
use Rattle.rest_spec.specs.StateModules.{state_module_of, state_supply_of}
use Rattle.rest_laws.specs.Replays.{HaveSameMaxima}
use Rattle.rest_laws.specs.KnownStores.{known_store, IsKnownStore}
use Rattle.type_safety.specs.Stores.{IsStore}
use Rattle.type_safety.specs.Supplies.{IsRunnable, IsSupply}

-- the bytes of a memory, none without one
abbrev pub memory_bytes : Option Memory → List ℕ
memory_bytes None = []
memory_bytes (Some memory) = memory.bytes

-- the entries of a table, none without one
abbrev pub table_entries : Option Table → List (Option ℕ)
table_entries None = []
table_entries (Some table) = table.entries

-- the state of a store
abbrev pub state_of_store : Store → KnownState
state_of_store store =
    record { bytes = memory_bytes store.memory; entries = table_entries store.table; globals = store.globals }

-- another store has the values of a store for the immutable globals of the module
abbrev pub HasSameImmutables : Module → (store other : Store) → Type 0
HasSameImmutables m store other =
    (at : ℕ) (ty : GlobalType) → slice_get (all_globals m) at ≡ Some ty → ty.mutable ≡ false
    → slice_get other.globals at ≡ slice_get store.globals at

-- the state module of a store begins in this store, with its supply, if the store is well typed and has the maxima and
-- the immutable globals of the store in which the module begins (Core 1.0, 4.5.4)
abbrev pub StateModulesOpen : Type 0
StateModulesOpen =
    (m : Module) (supply : Supply) (store other : Store)
    → IsRunnable m → IsSupply m supply → instantiate m supply ≡ Ok store
    → IsStore m other → HaveSameMaxima store other → HasSameImmutables m store other
    → instantiate (state_module_of m (state_of_store other)) (state_supply_of supply (state_of_store other)) ≡ Ok other

-- what is known before a call, as finite lists, is the state of the store that holds just this
abbrev pub KnownStatesAreOfStores : Type 0
KnownStatesAreOfStores =
    (m : Module) (store : Store) (known : Known)
    → IsKnownStore m store known
    → state_of_store (known_store m store known) ≡ state_of_known (length (all_globals m)) known

-- for each module that can be run, and each script that fits it and links with it: if the run's history so far has a
-- rest from a top-level call on, the state module of what is known before this call begins in the store that holds just
-- this, with its supply
abbrev pub KnownStatesOpen : Type 0
KnownStatesOpen =
    (m : Module) (script : Script) (supply : Supply) (store : Store) (count number : ℕ) (rest : List Entry)
    (known : Known)
    → IsRunnable m → Fits m script → supply_of m script ≡ Ok supply → instantiate m supply ≡ Ok store
    → rest_of (run_from (program_of m script) all_one (start_in_store m script store) count).history number 0
    ≡ Some rest
    → known_before number 0 (opening_known store) []
    (run_observations (program_of m script) (start_in_store m script store) count) ≡ Some known
    → instantiate (state_module_of m (state_of_known (length (all_globals m)) known))
    (state_supply_of supply (state_of_known (length (all_globals m)) known)) ≡ Ok (known_store m store known)
