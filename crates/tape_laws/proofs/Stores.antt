-- What changes of a store keep, and which part of the store an observation needs.
use Rattle.std.specs.Prelude.{◌≡◌, ℕ, Option, Some, option_map}
use Rattle.history_spec.specs.Store.{Store}
use Rattle.record_replay_spec.specs.Observations.{Observation, Begins, Ends, Reads, Copies, Writes, Reaches, Resizes, ReadsEntry, WritesEntry, ReachesEntry, ResizesTable}

-- the greatest sizes to which a store's memory and table may grow, if they exist
pub record Maxima : Type 0 where
  pub pages : Option (Option ℕ)
  pub entries : Option (Option ℕ)

abbrev pub maxima : Store → Maxima
maxima store =
    record {
      pages = option_map (λ memory. memory.max) store.memory;
      entries = option_map (λ table. table.max) store.table;
    }

-- the optional value exists
abbrev pub IsThere : {X : Type 0} → Option X → Type 0
IsThere {X} o = (x : X) × (o ≡ Some x)

-- the memory, table or global of an observation exists; activities of the host are not observations of a store
abbrev pub IsHere : Store → Observation → Type 0
IsHere store (Begins origin) = ⊥
IsHere store (Ends next) = ⊥
IsHere store (Reads address bytes) = IsThere store.memory
IsHere store (Copies address bytes) = IsThere store.memory
IsHere store (Writes address bytes) = IsThere store.memory
IsHere store (Reaches end found) = IsThere store.memory
IsHere store (Resizes found left) = IsThere store.memory
IsHere store (ReadsEntry index func) = IsThere store.table
IsHere store (WritesEntry index func) = IsThere store.table
IsHere store (ReachesEntry index found) = IsThere store.table
IsHere store (ResizesTable found left func) = IsThere store.table
IsHere store o = Unit {0}
