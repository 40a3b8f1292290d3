-- The state of a well-typed store is one in which the module may be.
use Rattle.std.proofs.Common.{◌≡◌, ℕ, ◌/◌, ◌<◌, ◌≤◌, List, [], ◌∷◌, length, Option, Some, None, option_map, refl, ap, ◌∙◌, subst}
use Rattle.std.specs.Prelude.{All, IfSome, IsTrue}
use Rattle.std.proofs.lemmas.List.Elements.{All-nil}
use Rattle.wasm_syntax.specs.declared.limits.TheConstants.{MAX_ENTRIES, MAX_PAGES, PAGE_SIZE}
use Rattle.wasm_syntax.specs.declared.signatures.Limits.{Limits}
use Rattle.wasm_syntax.specs.Index.{all_memories, all_tables}
use Rattle.host_script.specs.Supply.{is_within}
use Rattle.history_spec.specs.Store.{Memory, Table}
use Rattle.history_spec.specs.Instantiation.{memory_limits, table_limits}
use Rattle.type_safety.specs.Stores.{MayBeMemory, MayBeTable, func_count}
use Rattle.tape_laws.proofs.KeptStores.{new_maxima}
use Rattle.tape_laws.proofs.Stores.{Maxima}
use Rattle.rest_laws.specs.KnownStores.{known_store}
use Rattle.state_laws.specs.Opens.{memory_bytes, table_entries}
use Rattle.state_laws.specs.Valid.{IsSize, IsStateOf, KnownStoresHaveStates, StoresHaveStates}
use Rattle.state_laws.proofs.Opening.{whole_bytes}
use Rattle.state_laws.proofs.StatesOfKnown.{known_states_are_of_stores}

-- ---- sizes

-- a size within the maximum that the limits of the beginning have
sized : (most size : ℕ) (declared : Limits) (more : List Limits) (first : Option Limits) (max : Option ℕ)
    → Some max ≡ option_map (λ l. l.max) first → declared.min ≤ size → IsTrue (is_within size max) → size ≤ most
    → IsSize most (declared ∷ more) first size
sized most size declared more None max same least within small = cc
sized most size declared more (Some first) max same least within small =
    let own : max ≡ first.max = cc in (least, subst (λ max. IsTrue (is_within size max)) own within, small)

-- what the state has of a memory
record HasPages (declared : List Limits) (first : Option Limits) (bytes : List ℕ) : Type 0 where
  bytes_are : All (λ byte. byte < 256) bytes
  pages : IsSize MAX_PAGES declared first (length bytes / PAGE_SIZE)

memory_sized : (declared : List Limits) (first : Option Limits) (memory : Option Memory) → MayBeMemory declared memory
    → option_map (λ m. m.max) memory ≡ option_map (λ l. l.max) first → HasPages declared first (memory_bytes memory)
memory_sized [] first None may same = record { bytes_are = All-nil (λ byte. byte < 256); pages = refl }
memory_sized [] first (Some memory) may same = absurd may
memory_sized (declared ∷ more) first None may same = absurd may
memory_sized (declared ∷ more) first (Some memory) may same =
    record {
      bytes_are = may.bytes;
      pages =
          sized MAX_PAGES (length memory.bytes / PAGE_SIZE) declared more first memory.max same may.least may.within
          may.most;
    }

-- what the state has of a table
record HasEntries (funcs : ℕ) (declared : List Limits) (first : Option Limits) (entries : List (Option ℕ)) : Type 0 where
  entries_are : All (λ entry. IfSome entry (λ func. func < funcs)) entries
  size : IsSize MAX_ENTRIES declared first (length entries)

table_sized : (funcs : ℕ) (declared : List Limits) (first : Option Limits) (table : Option Table)
    → MayBeTable funcs declared table → option_map (λ t. t.max) table ≡ option_map (λ l. l.max) first
    → HasEntries funcs declared first (table_entries table)
table_sized funcs [] first None may same =
    record { entries_are = All-nil (λ (entry : Option ℕ). IfSome entry (λ func. func < funcs)); size = refl }
table_sized funcs [] first (Some table) may same = absurd may
table_sized funcs (declared ∷ more) first None may same = absurd may
table_sized funcs (declared ∷ more) first (Some table) may same =
    record {
      entries_are = may.entries;
      size = sized MAX_ENTRIES (length table.entries) declared more first table.max same may.least may.within may.most;
    }

-- ---- states

pub stores_have_states : StoresHaveStates
stores_have_states m supply store other begins typed same =
    let most = new_maxima m supply store begins in
    let memory =
    memory_sized (all_memories m) (memory_limits m supply) other.memory typed.memory
    (same.memory ∙ ap (λ (most : Maxima). most.pages) most) in
    let table =
    table_sized (func_count m) (all_tables m) (table_limits m supply) other.table typed.table
    (same.table ∙ ap (λ (most : Maxima). most.entries) most) in
    record {
      bytes = memory.bytes_are;
      whole = whole_bytes (all_memories m) other.memory typed.memory;
      pages = memory.pages;
      entries = table.entries_are;
      size = table.size;
      globals = typed.globals;
    }

pub known_stores_have_states : KnownStoresHaveStates
known_stores_have_states m supply store known begins is =
    subst (IsStateOf m supply) (known_states_are_of_stores m store known is)
    (stores_have_states m supply store (known_store m store known) begins is.typed is.maxima)
