-- What observations change in a store, and which changes are possible.
use Rattle.std.specs.Prelude.{◌≡◌, ℕ, ◌+◌, ◌-◌, ◌*◌, ◌<◌, ◌≤◌, List, [], ◌∷◌, ◌++◌, length, Option, Some, replicate, option_map, slice_get, slice_set, IfSome}
use Rattle.wasm_syntax.specs.declared.limits.TheConstants.{PAGE_SIZE}
use Rattle.wasm_syntax.specs.declared.values.ValType.{ValType}
use Rattle.history_spec.specs.Store.{Store, Memory, Table, zeros, with_items_at, with_global}
use Rattle.record_replay_spec.specs.Observations.{Observation, Writes, Resizes, WritesEntry, ResizesTable, WritesGlobal}

-- the memory with bytes in place of those from an address on (Core 1.0, 4.4.4)
abbrev pub with_bytes : (address : ℕ) (bytes : List ℕ) → Memory → Memory
with_bytes address bytes memory = record memory { bytes = with_items_at memory.bytes address bytes }

-- the memory with `by` more pages of zeros (Core 1.0, 4.4.4)
abbrev pub with_pages : ℕ → Memory → Memory
with_pages by memory = record memory { bytes = memory.bytes ++ zeros (by * PAGE_SIZE) }

-- the table with an entry set (Core 2.0, 4.4.6)
abbrev pub with_table_entry : (index : ℕ) (func : Option ℕ) → Table → Table
with_table_entry index func table = record table { entries = slice_set table.entries index func }

-- the table with `by` more entries (Core 2.0, 4.4.6)
abbrev pub with_entries : ℕ → Option ℕ → Table → Table
with_entries by func table = record table { entries = table.entries ++ replicate by func }

-- the store after one observation: it holds what is written, and what is resized has grown by the difference of the
-- sizes left and found
abbrev pub with_change : Store → Observation → Store
with_change store (Writes address bytes) =
    record store { memory = option_map (with_bytes address bytes) store.memory }
with_change store (Resizes found left) =
    record store { memory = option_map (with_pages (left - found)) store.memory }
with_change store (WritesEntry index func) =
    record store { table = option_map (with_table_entry index func) store.table }
with_change store (ResizesTable found left func) =
    record store { table = option_map (with_entries (left - found) func) store.table }
with_change store (WritesGlobal global value) = with_global store global value
with_change store o = store

-- the store after a list of observations
abbrev pub with_changes : Store → List Observation → Store
with_changes store [] = store
with_changes store (o ∷ seen) = with_changes (with_change store o) seen

-- an observation changes no store
abbrev pub ChangesNothing : Observation → Type 0
ChangesNothing o = (store : Store) → with_change store o ≡ store

-- only the last of a list of observations may change a store
abbrev pub OnlyLastChanges : List Observation → Type 0
OnlyLastChanges [] = Unit {0}
OnlyLastChanges (o ∷ []) = Unit {0}
OnlyLastChanges (o ∷ next ∷ seen) = ChangesNothing o × OnlyLastChanges (next ∷ seen)

-- the type of a global's value
abbrev pub global_type : Store → ℕ → Option ValType
global_type store global = option_map (λ value. value.ty) (slice_get store.globals global)

-- a store can be changed by an observation: the place that is written exists, a global holds a value of the written
-- type, and a new size is not smaller than the old one
abbrev pub CanChange : Store → Observation → Type 0
CanChange store (Writes address bytes) =
    IfSome store.memory (λ memory. address + length bytes ≤ length memory.bytes)
CanChange store (Resizes found left) = found ≤ left
CanChange store (WritesEntry index func) = IfSome store.table (λ table. index < length table.entries)
CanChange store (ResizesTable found left func) = found ≤ left
CanChange store (WritesGlobal global value) = global_type store global ≡ Some value.ty
CanChange store o = Unit {0}

-- a store can be changed by a list of observations, each in the store that those before it leave
abbrev pub CanChangeAll : Store → List Observation → Type 0
CanChangeAll store [] = Unit {0}
CanChangeAll store (o ∷ seen) = CanChange store o × CanChangeAll (with_change store o) seen

-- a store is left as was observed: the changes were possible, and are made
pub record IsChangedAs (store : Store) (seen : List Observation) (after : Store) : Type 0 where
  pub possible : CanChangeAll store seen
  pub changed : after ≡ with_changes store seen
