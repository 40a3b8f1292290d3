-- The state module of what is known before a top-level call begins in the store that holds just what is known.
use Rattle.std.proofs.Common.{◌≡◌, ◌*◌, Option, Some, None, Ok, length, option_map, refl, ap, subst}
use Rattle.wasm_syntax.specs.declared.limits.TheConstants.{PAGE_SIZE}
use Rattle.wasm_syntax.specs.Index.{all_globals}
use Rattle.history_spec.specs.Store.{Memory, Table}
use Rattle.history_spec.specs.Instantiation.{table_length, instantiate}
use Rattle.record_replay_spec.specs.Known.{Known, pages_of}
use Rattle.rest_spec.specs.KnownStates.{KnownState, bytes_below, entries_below, globals_below}
use Rattle.rest_spec.specs.StateModules.{state_module_of, state_supply_of}
use Rattle.rest_laws.specs.KnownStores.{known_memory, known_table, known_store, KnownStoresAreTyped}
use Rattle.type_safety.specs.Laws.{SuppliesMatch}
use Rattle.state_laws.specs.Opens.{memory_bytes, table_entries, KnownStatesAreOfStores, KnownStatesOpen}
use Rattle.state_laws.proofs.Opening.{state_modules_open}

module _ (known : Known) where
  bytes_same : (o : Option Memory) → pages_of (option_map (known_memory known) o) ≡ known.pages
      → memory_bytes (option_map (known_memory known) o) ≡ bytes_below (known.pages * PAGE_SIZE) known
  bytes_same None size = ap (λ n. bytes_below (n * PAGE_SIZE) known) size
  bytes_same (Some memory) size = refl

  entries_same : (o : Option Table) → table_length (option_map (known_table known) o) ≡ known.entries
      → table_entries (option_map (known_table known) o) ≡ entries_below known.entries known
  entries_same None size = ap (λ n. entries_below n known) size
  entries_same (Some table) size = refl

pub known_states_are_of_stores : KnownStatesAreOfStores
known_states_are_of_stores m store known is =
    let bytes = bytes_same known store.memory is.pages in
    let entries = entries_same known store.table is.entries in
    λ j. record { bytes = bytes j; entries = entries j; globals = globals_below (length (all_globals m)) known }

pub known_states_open : SuppliesMatch → KnownStoresAreTyped → KnownStatesOpen
known_states_open supplied typed m script supply store count number rest known runnable fits links begins has_rest
    before =
    let is = typed m script supply store count number rest known runnable fits links begins has_rest before in
    let other = known_store m store known in
    subst
    (λ (state : KnownState). instantiate (state_module_of m state) (state_supply_of supply state) ≡ Ok other)
    (known_states_are_of_stores m store known is)
    (state_modules_open m supply store other runnable (supplied m script supply fits links) begins is.typed is.maxima
    is.immutable)
