-- A store of the run, what is known of it, and the store of the tape's run beside it.
use Rattle.std.specs.Prelude.{◌≡◌, ℕ, ◌*◌, ◌<◌, List, [], ◌∷◌, length, Option, Some, IfSome, slice_get, unwrap_or}
use Rattle.wasm_syntax.specs.declared.limits.TheConstants.{PAGE_SIZE}
use Rattle.history_spec.specs.Store.{Store}
use Rattle.history_spec.specs.Instantiation.{table_length}
use Rattle.record_replay_spec.specs.Observations.{Observation, Reaches, ReachesEntry}
use Rattle.record_replay_spec.specs.Known.{Known, byte_of, entry_of, pages_of, carried_byte, carried_entry, known_after}
use Rattle.record_replay_spec.specs.Windows.{first_byte, first_entry, first_global, found_pages, found_entries}
use Rattle.record_replay_spec.specs.StoreAnswers.{Answers}
use Rattle.record_replay_spec.specs.Changes.{CanChange, with_change}
pub use Rattle.tape_laws.specs.RealReads.{IsKnownOf, IsSize, Seen, Unseen, IsReadOf}
use Rattle.tape_laws.proofs.Stores.{IsHere}

-- ---- what the tape's run holds

-- each place holds what the window reads first, else what is known, and the sizes are those that the window finds
pub record Holds (known : Known) (window : List Observation) (store : Store) : Type 0 where
  pub pages : IfSome store.memory (λ memory. length memory.bytes ≡ found_pages known.pages window * PAGE_SIZE)
  pub entries : IfSome store.table (λ table. length table.entries ≡ found_entries known.entries window)
  pub byte : (at : ℕ) → byte_of store.memory at ≡ unwrap_or (first_byte window at) (known.byte at)
  pub entry : (at : ℕ) → entry_of store.table at ≡ unwrap_or (first_entry window at) (known.entry at)
  pub global : (at : ℕ) → slice_get store.globals at ≡ unwrap_or (first_global window at) (known.global at)

-- ---- what a step observes

-- the size that an access finds is the store's
abbrev pub IsFound : Store → Observation → Type 0
IsFound store (Reaches end found) = pages_of store.memory ≡ found
IsFound store (ReachesEntry index found) = table_length store.table ≡ found
IsFound store o = Unit {0}

-- an observation fits a store and what is known of it: its memory, table or global exists, it is possible, and what it
-- reads or writes is within the sizes that are known after it
pub record IsSeen (known : Known) (store : Store) (o : Observation) : Type 0 where
  pub here : IsHere store o
  pub found : IsFound store o
  pub answers : Answers store o
  pub possible : CanChange store o
  pub bytes : (at x : ℕ) → carried_byte at o ≡ Some x → at < (known_after known o).pages * PAGE_SIZE
  pub entries : (at : ℕ) (x : Option ℕ) → carried_entry at o ≡ Some x → at < (known_after known o).entries

-- observations fit a store and what is known of it, one after another
abbrev pub AreSeen : Known → Store → List Observation → Type 0
AreSeen known store [] = Unit {0}
AreSeen known store (o ∷ seen) =
    IsSeen known store o × AreSeen (known_after known o) (with_change store o) seen
