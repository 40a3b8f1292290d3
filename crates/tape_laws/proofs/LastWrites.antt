-- Only the last observation of an instruction changes the store.
use Rattle.std.proofs.Common.{ℕ, ◌+◌, ◌%◌, List, [], ◌∷◌, length, Option, Some, None, slice_get}
use Rattle.std.specs.Prelude.{replicate}
use Rattle.wasm_syntax.specs.declared.values.Val.{Val}
use Rattle.wasm_syntax.specs.declared.instructions.Instr.{Instr}
use Rattle.wasm_syntax.specs.declared.instructions.Instr.TheVariants.{CallIndirect, GlobalGet, GlobalSet, Load, Store as StoreTo, MemorySize, MemoryGrow, MemoryCopy, MemoryFill, TableSet, TableGrow, TableSize}
use Rattle.wasm_syntax.specs.Nest.{Nest, Plain}
use Rattle.wasm_syntax.specs.Opcodes.{load_of, store_of}
use Rattle.history_spec.specs.Store.{Store, Memory, Table, pages, bytes_at, with_bytes_at, with_entry}
use Rattle.record_replay_spec.specs.Observations.{Observation, Reads, Copies, Writes, Reaches, ReadsEntry, WritesEntry, ReachesEntry, on, bits_from_top, size_observations, grow_observations, table_size_observations, table_grow_observations, load_observations, store_observations, copy_observations, entry_observations, set_observations, plain_observations, nest_observations}
use Rattle.tape_laws.proofs.StepItems.{OnlyLastWrites}

only_on : {X : Type 0} (o : Option X) (observe : X → List Observation) → ((x : X) → OnlyLastWrites (observe x))
    → OnlyLastWrites (on o observe)
only_on None observe each = tt
only_on (Some x) observe each = each x

only_reach : {X : Type 0} (end found : ℕ) (o : Option X) (observe : X → Observation)
    → OnlyLastWrites (Reaches end found ∷ on o (λ x. observe x ∷ []))
only_reach end found None observe = tt
only_reach end found (Some x) observe = (tt, tt)

only_index : {X : Type 0} (index found : ℕ) (o : Option X) (observe : X → Observation)
    → OnlyLastWrites (ReachesEntry index found ∷ on o (λ x. observe x ∷ []))
only_index index found None observe = tt
only_index index found (Some x) observe = (tt, tt)

only_load : (address width : ℕ) (memory : Memory) → OnlyLastWrites (load_observations address width memory)
only_load address width memory =
    only_reach (address + width) (pages memory) (bytes_at memory.bytes address width) (λ bytes. Reads address bytes)

only_store : (address count : ℕ) (bytes : List ℕ) (memory : Memory)
    → OnlyLastWrites (store_observations address count bytes memory)
only_store address count bytes memory =
    only_reach (address + count) (pages memory) (with_bytes_at memory.bytes address bytes) (λ all. Writes address bytes)

only_entry : (index : ℕ) (table : Table) → OnlyLastWrites (entry_observations index table)
only_entry index table =
    only_index index (length table.entries) (slice_get table.entries index) (λ func. ReadsEntry index func)

only_set : (index : ℕ) (func : Option ℕ) (table : Table) → OnlyLastWrites (set_observations index func table)
only_set index func table =
    only_index index (length table.entries) (with_entry table.entries index func) (λ all. WritesEntry index func)

only_copy : (to source count : ℕ) (memory : Memory) → OnlyLastWrites (copy_observations to source count memory)
only_copy to source count memory = go (bytes_at memory.bytes source count)
  where
    go : (o : Option (List ℕ)) → OnlyLastWrites (Reaches (source + count) (pages memory)
        ∷ Reaches (to + count) (pages memory)
        ∷ on o (λ bytes.
        on (with_bytes_at memory.bytes to bytes) (λ all. Copies source bytes ∷ Writes to bytes ∷ [])))
    go None = (tt, tt)
    go (Some bytes) = within (with_bytes_at memory.bytes to bytes)
      where
        within : (o : Option (List ℕ)) → OnlyLastWrites (Reaches (source + count) (pages memory)
            ∷ Reaches (to + count) (pages memory) ∷ on o (λ all. Copies source bytes ∷ Writes to bytes ∷ []))
        within None = (tt, tt)
        within (Some all) = (tt, (tt, (tt, tt)))

only_plain : (store : Store) (values : List Val) (i : Instr) → OnlyLastWrites (plain_observations store values i)
only_plain store values (Load at) =
    only_on (load_of at.op) _ (λ access.
    only_on store.memory _ (λ memory. only_load _ access.width memory))
only_plain store values (StoreTo at) =
    only_on (store_of at.op) _ (λ access.
    only_on store.memory _ (λ memory. only_store _ access.width _ memory))
only_plain store values MemorySize = only_on store.memory size_observations (λ memory. tt)
only_plain store values MemoryGrow = only_on store.memory (grow_observations _) (λ memory. tt)
only_plain store values MemoryCopy = only_on store.memory _ (λ memory.
    only_copy (bits_from_top values 2) (bits_from_top values 1) (bits_from_top values 0) memory)
only_plain store values MemoryFill =
    only_on store.memory _ (λ memory.
    only_store (bits_from_top values 2) (bits_from_top values 0)
    (replicate (bits_from_top values 0) (bits_from_top values 1 % 256)) memory)
only_plain store values (CallIndirect t) =
    only_on store.table _ (λ table. only_entry _ table)
only_plain store values (TableSet t) =
    only_on store.table _ (λ table. only_set _ _ table)
only_plain store values (TableSize t) = only_on store.table table_size_observations (λ table. tt)
only_plain store values (TableGrow t) = only_on store.table (table_grow_observations _ _) (λ table. tt)
only_plain store values (GlobalGet x) = only_on (slice_get store.globals x) _ (λ value. tt)
only_plain store values (GlobalSet x) = only_on (slice_get values 0) _ (λ value. tt)
only_plain store values i = tt

pub only_last_writes : (store : Store) (values : List Val) (nest : Nest)
    → OnlyLastWrites (nest_observations store values nest)
only_last_writes store values (Plain i rest) = only_plain store values i
only_last_writes store values nest = tt
