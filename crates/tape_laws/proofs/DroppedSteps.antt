-- An instruction's observations, which a store answers that lacks something.
use Rattle.std.proofs.Common.{◌≡◌, ℕ, ◌*◌, List, [], ◌∷◌, ◌++◌, Bool, true, false, cond, nat_le, nat_lt, slice_get, refl, sym, ◌∙◌, subst, inl, inr}
use Rattle.std.specs.Prelude.{◌⊎◌}
use Rattle.wasm_syntax.specs.declared.limits.TheConstants.{PAGE_SIZE}
use Rattle.history_spec.specs.Store.{Store}
use Rattle.history_spec.specs.Instantiation.{memory_length, table_length}
use Rattle.record_replay_spec.specs.Observations.{Observation, Reaches, Resizes, ReachesEntry, ResizesTable}
use Rattle.record_replay_spec.specs.Known.{Known, byte_of, entry_of, read_byte, written_byte, read_entry, written_entry, read_global, written_global, known_after, known_after_all}
use Rattle.record_replay_spec.specs.Windows.{found_pages, found_entries}
use Rattle.record_replay_spec.specs.StoreAnswers.{AnswersAll}
use Rattle.record_replay_spec.specs.Changes.{CanChangeAll, with_change, with_changes}
use Rattle.tape_laws.proofs.Stores.{maxima, IsThere}
use Rattle.tape_laws.proofs.Relation.{IsReadOf, Holds, AreSeen}
use Rattle.tape_laws.proofs.Items.{read_bytes, read_entries, read_globals, entries_there}
use Rattle.tape_laws.proofs.StepItems.{OnlyLastWrites, same_maxima, here_too, read_changes, read_of_all}
use Rattle.tape_laws.proofs.DroppedPlaces.{AllRead, answered_place}
use Rattle.tape_laws.proofs.DroppedStores.{HoldsLess, past_pages, past_entries, own_pages, if_memory, if_table, less_after, holds_before}

-- ---- several observations

answers_next : (other : Store) (o : Observation) (seen : List Observation) → OnlyLastWrites (o ∷ seen)
    → AnswersAll other seen → AnswersAll (with_change other o) seen
answers_next other o [] last answers = tt
answers_next other o (next ∷ seen) last answers =
    subst (λ s. AnswersAll s (next ∷ seen)) (sym (read_changes other o last.0)) answers

last_next : (o : Observation) (seen : List Observation) → OnlyLastWrites (o ∷ seen) → OnlyLastWrites seen
last_next o [] last = tt
last_next o (next ∷ seen) last = last.1

-- what a store holds after observations that it answers; and if it lacks nothing after them, it lacks nothing before
-- them
pub less_after_all : (later : List Observation) (known : Known) (store : Store) (seen : List Observation)
    (other : Store) → AreSeen known store seen → OnlyLastWrites seen → AnswersAll other seen
    → CanChangeAll other seen → maxima other ≡ maxima store
    → IsReadOf (known_after_all known seen) later (with_changes store seen) → HoldsLess known (seen ++ later) other
    → HoldsLess (known_after_all known seen) later (with_changes other seen)
    × (Holds (known_after_all known seen) later (with_changes other seen) → Holds known (seen ++ later) other)
less_after_all later known store [] other are last answers possible same real less = (less, λ held. held)
less_after_all later known store (o ∷ seen) other are last answers possible same real less =
    let rest = read_of_all later (known_after known o) (with_change store o) seen are.1 real in
    let here = here_too store other same o are.0.here in
    let next =
    less_after known store o are.0 (seen ++ later) rest other answers.0 here possible.0 less in
    let r = less_after_all later (known_after known o) (with_change store o) seen (with_change other o) are.1
    (last_next o seen last) (answers_next other o seen last answers.1) possible.1
    (same_maxima other o ∙ same ∙ sym (same_maxima store o)) real next in (
      r.0,
      λ held.
          holds_before known store o are.0 (seen ++ later) rest other answers.0 here possible.0 less (r.1 held),
    )

-- ---- if nothing follows

module _ (known : Known) (other : Store) where
  byte_reads : (at : ℕ) (seen : List Observation) → AnswersAll other seen
      → AllRead (read_byte at) (byte_of other.memory at) seen
  byte_reads at [] answers = tt
  byte_reads at (o ∷ seen) answers = (read_bytes other o answers.0 at, byte_reads at seen answers.1)

  entry_reads : (at : ℕ) (seen : List Observation) → AnswersAll other seen
      → AllRead (read_entry at) (entry_of other.table at) seen
  entry_reads at [] answers = tt
  entry_reads at (o ∷ seen) answers = (read_entries other o answers.0 at, entry_reads at seen answers.1)

  global_reads : (at : ℕ) (seen : List Observation) → AnswersAll other seen
      → AllRead (read_global at) (slice_get other.globals at) seen
  global_reads at [] answers = tt
  global_reads at (o ∷ seen) answers = (read_globals other o answers.0 at, global_reads at seen answers.1)

  size_reads : (seen : List Observation) → AnswersAll other seen → IsThere other.memory
      → (memory_length other.memory ≡ found_pages known.pages (seen ++ []) * PAGE_SIZE)
      ⊎ (memory_length other.memory ≡ known.pages * PAGE_SIZE)
      → memory_length other.memory ≡ found_pages known.pages (seen ++ []) * PAGE_SIZE
  size_reads [] answers there (inl h) = h
  size_reads [] answers there (inr h) = h
  size_reads (Reaches end found ∷ seen) answers there h =
      go (nat_le end (known.pages * PAGE_SIZE)) refl (size_reads seen answers.1 there) h
    where
      go : (b : Bool) → nat_le end (known.pages * PAGE_SIZE) ≡ b
          → ((memory_length other.memory ≡ found_pages known.pages (seen ++ []) * PAGE_SIZE)
          ⊎ (memory_length other.memory ≡ known.pages * PAGE_SIZE)
          → memory_length other.memory ≡ found_pages known.pages (seen ++ []) * PAGE_SIZE)
          → (memory_length other.memory ≡ cond b (found_pages known.pages (seen ++ [])) found * PAGE_SIZE)
          ⊎ (memory_length other.memory ≡ known.pages * PAGE_SIZE)
          → memory_length other.memory ≡ cond b (found_pages known.pages (seen ++ [])) found * PAGE_SIZE
      go true e rest h = rest h
      go false e rest (inl h) = h
      go false e rest (inr h) = past_pages other.memory known.pages end found answers.0 there e h
  size_reads (Resizes found left ∷ seen) answers there h =
      own_pages other.memory known.pages found there answers.0 h
  size_reads (o ∷ seen) answers there h = size_reads seen answers.1 there h

  count_reads : (seen : List Observation) → AnswersAll other seen → IsThere other.table
      → (table_length other.table ≡ found_entries known.entries (seen ++ []))
      ⊎ (table_length other.table ≡ known.entries)
      → table_length other.table ≡ found_entries known.entries (seen ++ [])
  count_reads [] answers there (inl h) = h
  count_reads [] answers there (inr h) = h
  count_reads (ReachesEntry index found ∷ seen) answers there h =
      go (nat_lt index known.entries) refl (count_reads seen answers.1 there) h
    where
      go : (b : Bool) → nat_lt index known.entries ≡ b
          → ((table_length other.table ≡ found_entries known.entries (seen ++ []))
          ⊎ (table_length other.table ≡ known.entries)
          → table_length other.table ≡ found_entries known.entries (seen ++ []))
          → (table_length other.table ≡ cond b (found_entries known.entries (seen ++ [])) found)
          ⊎ (table_length other.table ≡ known.entries)
          → table_length other.table ≡ cond b (found_entries known.entries (seen ++ [])) found
      go true e rest h = rest h
      go false e rest (inl h) = h
      go false e rest (inr h) = past_entries other.table known.entries index found answers.0 there e h
  count_reads (ResizesTable found left func ∷ seen) answers there h = entries_there other.table found there answers.0
  count_reads (o ∷ seen) answers there h = count_reads seen answers.1 there h

  -- a store that answers all observations of a window lacks nothing
  pub answered_holds : (seen : List Observation) → AnswersAll other seen → HoldsLess known (seen ++ []) other
      → Holds known (seen ++ []) other
  answered_holds seen answers less =
      record {
        pages = if_memory other.memory (found_pages known.pages (seen ++ []) * PAGE_SIZE)
            (λ there. size_reads seen answers there less.pages);
        entries = if_table other.table (found_entries known.entries (seen ++ []))
            (λ there. count_reads seen answers there less.entries);
        byte = λ at.
            answered_place (read_byte at) (written_byte at) seen (known.byte at) (byte_of other.memory at) _
            (byte_reads at seen answers) (less.byte at);
        entry = λ at.
            answered_place (read_entry at) (written_entry at) seen (known.entry at) (entry_of other.table at) _
            (entry_reads at seen answers) (less.entry at);
        global = λ at.
            answered_place (read_global at) (written_global at) seen (known.global at) (slice_get other.globals at) _
            (global_reads at seen answers) (less.global at);
      }
