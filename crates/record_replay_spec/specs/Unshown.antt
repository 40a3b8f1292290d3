-- What no entry shows of a store: a copy moves what it reads within the memory, and a growth of the table that fails
-- does not show the size.
use Rattle.std.specs.Prelude.{◌≡◌, ℕ, List, [], ◌∷◌, Option, Some, None}
use Rattle.history_spec.specs.Store.{Store}
use Rattle.history_spec.specs.Instantiation.{table_length}
use Rattle.record_replay_spec.specs.Observations.{Observation, Copies, ReachesEntry, ResizesTable}
use Rattle.record_replay_spec.specs.Known.{byte_among, byte_of, carried_byte}
use Rattle.record_replay_spec.specs.Windows.{first_read}

-- the byte at an address that a copy reads
abbrev pub copied_byte : (at : ℕ) → Observation → Option ℕ
copied_byte at (Copies address bytes) = byte_among address bytes at
copied_byte at o = None

-- the byte that the first touch of an address reads, if that is a copy
abbrev pub first_copied : List Observation → (at : ℕ) → Option ℕ
first_copied seen at = first_read (copied_byte at) (carried_byte at) seen

-- the table's size, if `table.size` or `table.grow` is the first to find it (Core 2.0, 4.4.6)
abbrev pub first_resized : List Observation → Option ℕ
first_resized [] = None
first_resized (ResizesTable found left func ∷ later) = Some found
first_resized (ReachesEntry index found ∷ later) = None
first_resized (o ∷ later) = first_resized later

-- a store holds what is observed and not shown: the bytes that a copy reads first, and the table's size
pub record AnswersUnshown (store : Store) (seen : List Observation) : Type 0 where
  pub copied : (at x : ℕ) → first_copied seen at ≡ Some x → byte_of store.memory at ≡ x
  pub resized : (found : ℕ) → first_resized seen ≡ Some found → table_length store.table ≡ found
