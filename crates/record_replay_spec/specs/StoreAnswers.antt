-- Stores that answer alike what is observed: what never differs between them, and that one holds what was observed of
-- the other.
use Rattle.std.specs.Prelude.{◌≡◌, ℕ, ◌*◌, List, [], ◌∷◌, length, Option, Some, None, Bool, false, ◌&&◌, nat_le, nat_lt, slice_get, IfSome}
use Rattle.wasm_syntax.specs.declared.limits.TheConstants.{MAX_ENTRIES, MAX_PAGES, PAGE_SIZE}
use Rattle.wasm_syntax.specs.declared.values.ValType.{ValType}
use Rattle.host_script.specs.Supply.{is_within}
use Rattle.history_spec.specs.Store.{Store, Memory, Table, pages}
use Rattle.record_replay_spec.specs.Observations.{Observation, Reads, Copies, Reaches, Resizes, ReadsEntry, ReachesEntry, ResizesTable, ReadsGlobal}
use Rattle.record_replay_spec.specs.Known.{byte_among, byte_of, entry_of}
use Rattle.record_replay_spec.specs.Changes.{global_type}

-- ---- stores of one kind

-- two options both hold values, which are related, or both are empty
abbrev pub BothOrNeither : {X : Type 0} → (X → X → Type 0) → Option X → Option X → Type 0
BothOrNeither R None None = Unit {0}
BothOrNeither R None (Some b) = ⊥
BothOrNeither R (Some a) None = ⊥
BothOrNeither R (Some a) (Some b) = R a b

-- a memory may have this number of pages (Core 1.0, 4.2.8), within the limit of this project
abbrev pub allows_pages : Memory → ℕ → Bool
allows_pages memory size = is_within size memory.max && nat_le size MAX_PAGES

-- a table may have this number of entries (Core 1.0, 4.2.7), within the limit of this project
abbrev pub allows_entries : Table → ℕ → Bool
allows_entries table size = is_within size table.max && nat_le size MAX_ENTRIES

-- two memories allow the same numbers of pages
abbrev pub AllowSamePages : Memory → Memory → Type 0
AllowSamePages memory other = (size : ℕ) → allows_pages other size ≡ allows_pages memory size

-- two tables allow the same numbers of entries
abbrev pub AllowSameEntries : Table → Table → Type 0
AllowSameEntries table other = (size : ℕ) → allows_entries other size ≡ allows_entries table size

-- what no step of a valid module and no action of the host changes: whether a memory and a table exist, and which
-- sizes they may have; and the types of the globals. The other store may have more globals, after those of the first.
pub record SameKind (store other : Store) : Type 0 where
  pub memory : BothOrNeither AllowSamePages store.memory other.memory
  pub table : BothOrNeither AllowSameEntries store.table other.table
  pub globals : (global : ℕ) (ty : ValType) → global_type store global ≡ Some ty → global_type other global ≡ Some ty

-- the memory, if there is one, has whole pages (Core 1.0, 4.2.8)
abbrev pub HasWholePages : Store → Type 0
HasWholePages store = IfSome store.memory (λ memory. length memory.bytes ≡ pages memory * PAGE_SIZE)

-- ---- answers

-- an access is within one size if and only if it was within another, and if it is past that size, the sizes are equal
pub record IsReachedAlike (within was_within : Bool) (size found : ℕ) : Type 0 where
  pub alike : within ≡ was_within
  pub same : was_within ≡ false → size ≡ found

-- a store's memory holds these bytes from an address on, with zeros past the memory's end
abbrev pub HoldsBytes : Store → (address : ℕ) → List ℕ → Type 0
HoldsBytes store address bytes =
    (at byte : ℕ) → byte_among address bytes at ≡ Some byte → byte_of store.memory at ≡ byte

-- a store holds what was observed, perhaps of another store: the bytes that were read, the entry or the global; the
-- size that was found; and an access is within the store's size if and only if it was within the other's. A write
-- requires nothing of the store.
abbrev pub Answers : Store → Observation → Type 0
Answers store (Reads address bytes) = HoldsBytes store address bytes
Answers store (Copies address bytes) = HoldsBytes store address bytes
Answers store (Reaches end found) =
    IfSome store.memory (λ memory.
    IsReachedAlike (nat_le end (length memory.bytes)) (nat_le end (found * PAGE_SIZE)) (pages memory) found)
Answers store (Resizes found left) = IfSome store.memory (λ memory. pages memory ≡ found)
Answers store (ReadsEntry index func) = entry_of store.table index ≡ func
Answers store (ReachesEntry index found) =
    IfSome store.table (λ table.
    IsReachedAlike (nat_lt index (length table.entries)) (nat_lt index found) (length table.entries) found)
Answers store (ResizesTable found left func) = IfSome store.table (λ table. length table.entries ≡ found)
Answers store (ReadsGlobal global value) = slice_get store.globals global ≡ Some value
Answers store o = Unit {0}

-- a store answers all of a list of observations, as it is before any of them: an instruction reads and finds before it
-- writes
abbrev pub AnswersAll : Store → List Observation → Type 0
AnswersAll store [] = Unit {0}
AnswersAll store (o ∷ seen) = Answers store o × AnswersAll store seen

-- another store answers what is observed of a first one
pub record AnswersAlike (store other : Store) (seen : List Observation) : Type 0 where
  pub kind : SameKind store other
  pub whole : HasWholePages store
  pub answers : AnswersAll other seen
