-- What each call on a store gives, or the store after it, by the definitions that the steps of a run use (Core 1.0,
-- 4.4.3, 4.4.4 and 4.4.5.11).
use Rattle.std.specs.Prelude.{ℕ, ◌+◌, ◌==◌, cond, map, nat_le, List, [], length, Option, Some, None, Bool, ◌||◌, slice_get, option_map, option_and_then}
use Rattle.history_spec.specs.Store.{Store, Memory, Table, pages, grown_memory, grown_table, bytes_at, with_items_at, with_bytes_at, with_bytes_filled, number_of, with_entry, with_memory, with_table}

-- whether a number is a width of accesses, in bytes
abbrev pub is_width : ℕ → Bool
is_width width = width == 1 || width == 2 || width == 4 || width == 8

-- the bytes of a memory, an empty list without a memory
abbrev pub bytes_of_memory : Option Memory → List ℕ
bytes_of_memory None = []
bytes_of_memory (Some memory) = memory.bytes

-- the bytes of the memory of a store
abbrev pub bytes_in : Store → List ℕ
bytes_in store = bytes_of_memory store.memory

-- the size of a memory in pages, 0 without a memory
abbrev pub pages_of_memory : Option Memory → ℕ
pages_of_memory None = 0
pages_of_memory (Some memory) = pages memory

-- the size of the memory of a store
abbrev pub pages_in : Store → ℕ
pages_in store = pages_of_memory store.memory

-- the entries of a table, an empty list without a table
abbrev pub entries_of_table : Option Table → List (Option ℕ)
entries_of_table None = []
entries_of_table (Some table) = table.entries

-- the entries of the table of a store
abbrev pub entries_in : Store → List (Option ℕ)
entries_in store = entries_of_table store.table

-- the number that `width` bytes at an address encode, if they all exist (Core 1.0, 4.4.4)
abbrev pub load_at : Store → (address width : ℕ) → Option ℕ
load_at store address width = option_map number_of (bytes_at (bytes_in store) address width)

-- the store with other bytes in its memory
abbrev pub with_bytes : Store → List ℕ → Store
with_bytes store bytes =
    record store { memory = option_map {T = Memory} (λ memory. record memory { bytes = bytes }) store.memory }

-- the store with bytes written from an address on, if these are all within its memory
abbrev pub put_bytes : Store → ℕ → List ℕ → Option Store
put_bytes store address news = option_map (with_bytes store) (with_bytes_at (bytes_in store) address news)

-- the store with bytes of its memory written elsewhere in it, if both ranges are within it
abbrev pub move_bytes : Store → (to source count : ℕ) → Option Store
move_bytes store to source count = option_and_then (put_bytes store to) (bytes_at (bytes_in store) source count)

-- the store with `count` times the byte written from an address on, if these are all within its memory
abbrev pub fill_bytes : Store → (to byte count : ℕ) → Option Store
fill_bytes store to byte count = option_map (with_bytes store) (with_bytes_filled (bytes_in store) to byte count)

-- the store with its memory grown, if it has one that may grow so far
abbrev pub grow : Store → ℕ → Option Store
grow store by = option_map (with_memory store) (option_and_then (λ memory. grown_memory memory by) store.memory)

-- the store with its table grown by entries that each hold the same, if it has one that may grow so far
abbrev pub grow_table : Store → (by : ℕ) → (entry : Option ℕ) → Option Store
grow_table store by entry =
    option_map (with_table store) (option_and_then (λ table. grown_table table by entry) store.table)

-- the entry of the table at an index, if it exists
abbrev pub entry_at : Store → ℕ → Option (Option ℕ)
entry_at store index = slice_get (entries_in store) index

-- the store with other entries in its table
abbrev pub with_entries : Store → List (Option ℕ) → Store
with_entries store entries =
    record store { table = option_map {T = Table} (λ table. record table { entries = entries }) store.table }

-- the store with an entry set, if it exists
abbrev pub set_entry : Store → ℕ → Option ℕ → Option Store
set_entry store index entry = option_map (with_entries store) (with_entry (entries_in store) index entry)

-- the entries with functions from an index on, if these all exist
abbrev pub with_funcs_at : List (Option ℕ) → ℕ → List ℕ → Option (List (Option ℕ))
with_funcs_at entries index funcs =
    cond (nat_le (index + length funcs) (length entries))
    (Some (with_items_at entries index (map (λ func. Some func) funcs))) None

-- the store with functions put into the entries from an index on, if these all exist
abbrev pub put_funcs : Store → ℕ → List ℕ → Option Store
put_funcs store index funcs = option_map (with_entries store) (with_funcs_at (entries_in store) index funcs)
