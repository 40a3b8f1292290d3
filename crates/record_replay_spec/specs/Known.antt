-- What is known of memory, table and globals by what the module touched and saw of them, without the host's help.
use Rattle.std.specs.Prelude.{ℕ, ◌-◌, ◌*◌, List, [], ◌∷◌, Option, Some, None, cond, ◌&&◌, nat_eq, nat_le, nat_lt, slice_get, slice_index, unwrap_or}
use Rattle.std.specs.Option.{option_flatten, option_or}
use Rattle.wasm_syntax.specs.declared.limits.TheConstants.{PAGE_SIZE}
use Rattle.wasm_syntax.specs.declared.values.Val.{Val}
use Rattle.history_spec.specs.Store.{Store, Memory, Table, pages}
use Rattle.history_spec.specs.Instantiation.{table_length}
use Rattle.record_replay_spec.specs.Observations.{Observation, Reads, Copies, Writes, Reaches, Resizes, ReadsEntry, WritesEntry, ReachesEntry, ResizesTable, ReadsGlobal, WritesGlobal}

-- what is known: bytes by address, table entries and globals by index, and the numbers of pages and entries
pub record Known : Type 0 where
  pub byte : ℕ → ℕ
  pub entry : ℕ → Option ℕ
  pub global : ℕ → Option Val
  pub pages : ℕ
  pub entries : ℕ

-- ---- the opening

-- the byte at an address, 0 past the memory
abbrev pub byte_of : Option Memory → ℕ → ℕ
byte_of None at = 0
byte_of (Some memory) at = slice_index memory.bytes at

-- the entry at an index, empty past the table
abbrev pub entry_of : Option Table → ℕ → Option ℕ
entry_of None at = None
entry_of (Some table) at = option_flatten (slice_get table.entries at)

-- the number of pages of a memory, 0 without one
abbrev pub pages_of : Option Memory → ℕ
pages_of None = 0
pages_of (Some memory) = pages memory

-- what is known at the start of a run: the store as it was instantiated
abbrev pub opening_known : Store → Known
opening_known store =
    record {
      byte = byte_of store.memory;
      entry = entry_of store.table;
      global = slice_get store.globals;
      pages = pages_of store.memory;
      entries = table_length store.table;
    }

-- ---- touches

-- the byte at an address in a run of bytes that begins at another address
abbrev pub byte_among : (address : ℕ) → List ℕ → (at : ℕ) → Option ℕ
byte_among address bytes at = cond (nat_le address at) (slice_get bytes (at - address)) None

-- the byte at an address that is read, by a load or as the source of a copy
abbrev pub read_byte : (at : ℕ) → Observation → Option ℕ
read_byte at (Reads address bytes) = byte_among address bytes at
read_byte at (Copies address bytes) = byte_among address bytes at
read_byte at o = None

-- the byte at an address that is written
abbrev pub written_byte : (at : ℕ) → Observation → Option ℕ
written_byte at (Writes address bytes) = byte_among address bytes at
written_byte at o = None

-- the entry at an index that is read
abbrev pub read_entry : (at : ℕ) → Observation → Option (Option ℕ)
read_entry at (ReadsEntry index func) = cond (nat_eq index at) (Some func) None
read_entry at o = None

-- the entry at an index that is written; a growth writes the entries that it adds
abbrev pub written_entry : (at : ℕ) → Observation → Option (Option ℕ)
written_entry at (WritesEntry index func) = cond (nat_eq index at) (Some func) None
written_entry at (ResizesTable found left func) = cond (nat_le found at && nat_lt at left) (Some func) None
written_entry at o = None

-- the global at an index that is read
abbrev pub read_global : (at : ℕ) → Observation → Option (Option Val)
read_global at (ReadsGlobal global value) = cond (nat_eq global at) (Some (Some value)) None
read_global at o = None

-- the global at an index that is written
abbrev pub written_global : (at : ℕ) → Observation → Option (Option Val)
written_global at (WritesGlobal global value) = cond (nat_eq global at) (Some (Some value)) None
written_global at o = None

-- the byte at an address that a touch carries: the value that was read or written
abbrev pub carried_byte : (at : ℕ) → Observation → Option ℕ
carried_byte at o = option_or (read_byte at o) (written_byte at o)

-- the entry at an index that a touch carries: the entry that was read or written
abbrev pub carried_entry : (at : ℕ) → Observation → Option (Option ℕ)
carried_entry at o = option_or (read_entry at o) (written_entry at o)

-- the global at an index that a touch carries: the value that was read or written
abbrev pub carried_global : (at : ℕ) → Observation → Option (Option Val)
carried_global at o = option_or (read_global at o) (written_global at o)

-- the known number of pages after an observation: an access sees the size if its end is past the known size
abbrev pub pages_after : (known : ℕ) → Observation → ℕ
pages_after known (Reaches end found) = cond (nat_le end (known * PAGE_SIZE)) known found
pages_after known (Resizes found left) = left
pages_after known o = known

-- the known number of entries after an observation: an access of the table sees the size if its index is not below the
-- known size
abbrev pub entries_after : (known : ℕ) → Observation → ℕ
entries_after known (ReachesEntry index found) = cond (nat_lt index known) known found
entries_after known (ResizesTable found left func) = left
entries_after known o = known

-- ---- what is known after observations, by a search of all of them

-- the value that the last item with a value gives
abbrev pub last_some : {A X : Type 0} → (A → Option X) → List A → Option X
last_some part [] = None
last_some part (item ∷ later) = option_or (last_some part later) (part item)

-- the byte that the last touch of an address carried, else that of the opening
abbrev pub known_byte : Known → List Observation → (at : ℕ) → ℕ
known_byte opening seen at = unwrap_or (last_some (carried_byte at) seen) (opening.byte at)

-- the entry that the last touch of an index carried, else that of the opening
abbrev pub known_entry : Known → List Observation → (at : ℕ) → Option ℕ
known_entry opening seen at = unwrap_or (last_some (carried_entry at) seen) (opening.entry at)

-- the value that the last touch of a global carried, else that of the opening
abbrev pub known_global : Known → List Observation → (at : ℕ) → Option Val
known_global opening seen at = unwrap_or (last_some (carried_global at) seen) (opening.global at)

-- the number of pages that the last observation that saw it left, else that of the opening
abbrev pub known_pages : (opening : ℕ) → List Observation → ℕ
known_pages opening [] = opening
known_pages opening (o ∷ later) = known_pages (pages_after opening o) later

-- the number of entries that the last observation that saw it left, else that of the opening
abbrev pub known_entries : (opening : ℕ) → List Observation → ℕ
known_entries opening [] = opening
known_entries opening (o ∷ later) = known_entries (entries_after opening o) later

-- all that is known after observations, by a search of all of them
abbrev pub known_from : (opening : Known) → List Observation → Known
known_from opening seen =
    record {
      byte = known_byte opening seen;
      entry = known_entry opening seen;
      global = known_global opening seen;
      pages = known_pages opening.pages seen;
      entries = known_entries opening.entries seen;
    }

-- ---- what is known after observations, one observation at a time

-- what is known after one more observation
abbrev pub known_after : Known → Observation → Known
known_after known o =
    record {
      byte = λ at. unwrap_or (carried_byte at o) (known.byte at);
      entry = λ at. unwrap_or (carried_entry at o) (known.entry at);
      global = λ at. unwrap_or (carried_global at o) (known.global at);
      pages = pages_after known.pages o;
      entries = entries_after known.entries o;
    }

-- what is known after a list of observations
abbrev pub known_after_all : Known → List Observation → Known
known_after_all known [] = known
known_after_all known (o ∷ later) = known_after_all (known_after known o) later
