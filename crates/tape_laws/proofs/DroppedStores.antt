-- The store of the run of a tape with something removed: a place whose effect was removed holds what is known.
use Rattle.std.proofs.Common.{◌≡◌, ℕ, ◌+◌, ◌-◌, ◌*◌, ◌<◌, ◌≤◌, List, [], ◌∷◌, ◌++◌, length, Option, Some, None, Bool, true, false, cond, nat_le, nat_lt, slice_get, refl, sym, ap, ◌∙◌, arith, inl, inr}
use Rattle.std.specs.Prelude.{◌⊎◌, IfSome, unwrap_or}
use Rattle.std.specs.Option.{option_or}
use Rattle.std.specs.List.{AllByRecursion}
use Rattle.std.proofs.lemmas.Option.{none-some}
use Rattle.wasm_syntax.specs.declared.limits.TheConstants.{PAGE_SIZE}
use Rattle.history_spec.specs.Store.{Store, Memory, Table, pages}
use Rattle.history_spec.specs.Instantiation.{memory_length, table_length}
use Rattle.record_replay_spec.specs.Observations.{Observation, Copies, Writes, Reaches, Resizes, WritesEntry, ReachesEntry, ResizesTable}
use Rattle.record_replay_spec.specs.Known.{Known, byte_of, entry_of, read_byte, written_byte, read_entry, written_entry, read_global, written_global, pages_after, entries_after, known_after}
use Rattle.record_replay_spec.specs.Windows.{unless_some, first_byte, first_entry, first_global, found_pages, found_entries}
use Rattle.record_replay_spec.specs.StoreAnswers.{IsReachedAlike, Answers}
use Rattle.record_replay_spec.specs.Changes.{CanChange, with_change}
use Rattle.record_replay_spec.specs.Unshown.{copied_byte, first_copied, first_resized, AnswersUnshown}
use Rattle.tape_laws.proofs.Stores.{Maxima, IsThere, IsHere}
use Rattle.tape_laws.proofs.Relation.{IsSize, IsReadOf, Holds, IsFound, IsSeen}
use Rattle.tape_laws.proofs.Places.{IsTouched}
use Rattle.tape_laws.proofs.Changes.{IsChangedBy, left_entries, left_bytes, changed_by}
use Rattle.tape_laws.proofs.Items.{one_byte, one_entry, one_global, read_bytes, read_entries, read_globals, size_found, entries_there, bytes_there, touched_byte, touched_entry, touched_global}
use Rattle.tape_laws.proofs.Held.{whole_pages, resized_found}
use Rattle.tape_laws.proofs.StepItems.{there_too}
use Rattle.tape_laws.proofs.DroppedPlaces.{MayLack, lack_after, none_before}
use Rattle.tape_laws.proofs.Trails.{IsOfCore}

-- each place holds what the window reads first, else what is known; or what is known, if no copy reads it first; the
-- sizes are those that the window finds, or the known ones
pub record HoldsLess (known : Known) (window : List Observation) (store : Store) : Type 0 where
  pub pages : (memory_length store.memory ≡ found_pages known.pages window * PAGE_SIZE)
      ⊎ (memory_length store.memory ≡ known.pages * PAGE_SIZE)
  pub entries : (table_length store.table ≡ found_entries known.entries window)
      ⊎ (table_length store.table ≡ known.entries)
  pub byte : (at : ℕ)
      → MayLack (first_byte window at) (known.byte at) (byte_of store.memory at) (first_copied window at ≡ None)
  pub entry : (at : ℕ) → MayLack (first_entry window at) (known.entry at) (entry_of store.table at) (Unit {0})
  pub global : (at : ℕ) → MayLack (first_global window at) (known.global at) (slice_get store.globals at) (Unit {0})

-- ---- sizes that are seen

-- the size that an access past the known one finds
pub past_pages : (o : Option Memory) (known end found : ℕ)
    → IfSome o (λ m. IsReachedAlike (nat_le end (length m.bytes)) (nat_le end (found * PAGE_SIZE)) (pages m) found)
    → IsThere o → nat_le end (known * PAGE_SIZE) ≡ false → memory_length o ≡ known * PAGE_SIZE
    → memory_length o ≡ found * PAGE_SIZE
past_pages None known end found answer there e h = absurd (none-some there.0 there.1)
past_pages (Some m) known end found answer there e h =
    let was : nat_le end (found * PAGE_SIZE) ≡ false = sym answer.alike ∙ ap (nat_le end) h ∙ e in
    let size : known ≡ found = sym (whole_pages (length m.bytes) known h) ∙ answer.same was in
    h ∙ ap (λ n. n * PAGE_SIZE) size

pub past_entries : (o : Option Table) (known index found : ℕ)
    → IfSome o (λ t. IsReachedAlike (nat_lt index (length t.entries)) (nat_lt index found) (length t.entries) found)
    → IsThere o → nat_lt index known ≡ false → table_length o ≡ known → table_length o ≡ found
past_entries None known index found answer there e h = absurd (none-some there.0 there.1)
past_entries (Some t) known index found answer there e h =
    answer.same (sym answer.alike ∙ ap (nat_lt index) h ∙ e)

-- a size that is found by an instruction of its own
pub own_pages : (o : Option Memory) (known found : ℕ) → IsThere o → IfSome o (λ m. pages m ≡ found)
    → (memory_length o ≡ found * PAGE_SIZE) ⊎ (memory_length o ≡ known * PAGE_SIZE)
    → memory_length o ≡ found * PAGE_SIZE
own_pages None known found there is h = absurd (none-some there.0 there.1)
own_pages (Some m) known found there is (inl h) = h
own_pages (Some m) known found there is (inr h) =
    h ∙ ap (λ n. n * PAGE_SIZE) (sym (whole_pages (length m.bytes) known h) ∙ is)

pub if_memory : (o : Option Memory) (n : ℕ) → (IsThere o → memory_length o ≡ n) → IfSome o (λ m. length m.bytes ≡ n)
if_memory None n h = tt
if_memory (Some m) n h = h (m, refl)

pub if_table : (o : Option Table) (n : ℕ) → (IsThere o → table_length o ≡ n) → IfSome o (λ t. length t.entries ≡ n)
if_table None n h = tt
if_table (Some t) n h = h (t, refl)

-- ---- what a copy reads first

copied_is : (at : ℕ) (o : Observation) (x : ℕ) → copied_byte at o ≡ Some x → read_byte at o ≡ Some x
copied_is at (Copies address bytes) x h = h
copied_is at o x h = absurd (none-some x h)

uncopied : (at : ℕ) (o : Observation) → read_byte at o ≡ None → copied_byte at o ≡ None
uncopied at (Copies address bytes) h = h
uncopied at o h = refl

-- if an observation does not touch a place, the rest decides whether a copy reads it first
pub untouched : (copied read written later : Option ℕ) → copied ≡ None → read ≡ None → written ≡ None
    → option_or copied (unless_some (option_or read written) later) ≡ None → later ≡ None
untouched None None None later c r w h = h
untouched (Some x) read written later c r w h = absurd (none-some x (sym c))
untouched None (Some x) written later c r w h = absurd (none-some x (sym r))
untouched None None (Some x) later c r w h = absurd (none-some x (sym w))

-- what is copied first in a part is read first, whatever follows
first_is : (copied read written later later_copied later_read x : Option ℕ) (y : ℕ)
    → ((z : ℕ) → copied ≡ Some z → read ≡ Some z)
    → (later ≡ Some y → (later_copied ≡ Some y) × (later_read ≡ Some y))
    → option_or copied (unless_some (option_or read written) later) ≡ Some y
    → (option_or copied (unless_some (option_or read written) later_copied) ≡ Some y)
    × (option_or read (unless_some written later_read) ≡ Some y)
first_is (Some z) read written later later_copied later_read x y same rest h =
    (h, ap (λ o. option_or o (unless_some written later_read)) (same z refl) ∙ h)
first_is None (Some z) written later later_copied later_read x y same rest h = absurd (none-some y h)
first_is None None (Some z) later later_copied later_read x y same rest h = absurd (none-some y h)
first_is None None None later later_copied later_read x y same rest h = rest h

copied_first : (seen later : List Observation) (at y : ℕ) → first_copied seen at ≡ Some y
    → (first_copied (seen ++ later) at ≡ Some y) × (first_byte (seen ++ later) at ≡ Some y)
copied_first [] later at y h = absurd (none-some y h)
copied_first (o ∷ seen) later at y h =
    first_is (copied_byte at o) (read_byte at o) (written_byte at o) (first_copied seen at)
    (first_copied (seen ++ later) at) (first_byte (seen ++ later) at) None y (copied_is at o)
    (copied_first seen later at y) h

-- a module of the form Core does not resize the table
never_resized : (seen : List Observation) → AllByRecursion IsOfCore seen → first_resized seen ≡ None
never_resized [] core = refl
never_resized (ResizesTable found left func ∷ seen) core = absurd core.0
never_resized (ReachesEntry index found ∷ seen) core = refl
never_resized (o ∷ seen) core = never_resized seen core.1

-- the store does not lack what no entry shows
pub answers_unshown : (known : Known) (seen later : List Observation) (store : Store)
    → HoldsLess known (seen ++ later) store → AllByRecursion IsOfCore seen → AnswersUnshown store seen
answers_unshown known seen later store less core =
    record {
      copied = λ at x h. copied at x (copied_first seen later at x h) (less.byte at);
      resized = λ found h. absurd (none-some found (sym (never_resized seen core) ∙ h));
    }
  where
    copied : (at x : ℕ) → (first_copied (seen ++ later) at ≡ Some x) × (first_byte (seen ++ later) at ≡ Some x)
        → MayLack (first_byte (seen ++ later) at) (known.byte at) (byte_of store.memory at)
        (first_copied (seen ++ later) at ≡ None)
        → byte_of store.memory at ≡ x
    copied at x first (inl h) = h ∙ ap (λ o. unwrap_or o (known.byte at)) first.1
    copied at x first (inr h) = absurd (none-some x (sym h.1 ∙ first.0))

-- ---- an observation that the store answers

module _ (known : Known) (store : Store) (o : Observation) (seen : IsSeen known store o) (later : List Observation)
    (real : IsReadOf (known_after known o) later (with_change store o)) (other : Store) (answers : Answers other o)
    (here : IsHere other o) (possible : CanChange other o) (less : HoldsLess known (o ∷ later) other) where
  abbrev after : Store
  after = with_change other o

  changed : IsChangedBy other o after
  changed = changed_by other o here answers possible

  byte_touched : (at : ℕ)
      → IsTouched (read_byte at o) (written_byte at o) (byte_of other.memory at) (byte_of after.memory at)
  byte_touched at = record { reads = read_bytes other o answers at; writes = changed.byte at; one = one_byte at o }

  entry_touched : (at : ℕ)
      → IsTouched (read_entry at o) (written_entry at o) (entry_of other.table at) (entry_of after.table at)
  entry_touched at = record { reads = read_entries other o answers at; writes = changed.entry at; one = one_entry at o }

  global_touched : (at : ℕ)
      → IsTouched (read_global at o) (written_global at o) (slice_get other.globals at) (slice_get after.globals at)
  global_touched at =
      record { reads = read_globals other o answers at; writes = changed.global at; one = one_global at o }

  -- the sizes after an observation
  size_after : (o : Observation) → Answers other o → IsHere other o → CanChange other o
      → memory_length (with_change other o).memory ≡ left_bytes (memory_length other.memory) o
      → (memory_length other.memory ≡ found_pages known.pages (o ∷ later) * PAGE_SIZE)
      ⊎ (memory_length other.memory ≡ known.pages * PAGE_SIZE)
      → (memory_length (with_change other o).memory ≡ found_pages (pages_after known.pages o) later * PAGE_SIZE)
      ⊎ (memory_length (with_change other o).memory ≡ pages_after known.pages o * PAGE_SIZE)
  size_after (Reaches end found) answers here possible long h = go (nat_le end (known.pages * PAGE_SIZE)) refl h
    where
      go : (b : Bool) → nat_le end (known.pages * PAGE_SIZE) ≡ b
          → (memory_length other.memory ≡ cond b (found_pages known.pages later) found * PAGE_SIZE)
          ⊎ (memory_length other.memory ≡ known.pages * PAGE_SIZE)
          → (memory_length other.memory ≡ found_pages (cond b known.pages found) later * PAGE_SIZE)
          ⊎ (memory_length other.memory ≡ cond b known.pages found * PAGE_SIZE)
      go true e h = h
      go false e (inl h) = inr h
      go false e (inr h) = inr (past_pages other.memory known.pages end found answers here e h)
  size_after (Resizes found left) answers here possible long h =
      let size = own_pages other.memory known.pages found here answers h in
      let more : found ≤ left = possible in
      let sum : found * PAGE_SIZE + (left - found) * PAGE_SIZE ≡ left * PAGE_SIZE = omega (arith, more) in
      inr (long ∙ ap (λ n. n + (left - found) * PAGE_SIZE) size ∙ sum)
  size_after (Writes address bytes) answers here possible long (inl h) = inl (long ∙ h)
  size_after (Writes address bytes) answers here possible long (inr h) = inr (long ∙ h)
  size_after o answers here possible long h = h

  count_after : (o : Observation) → Answers other o → IsHere other o → CanChange other o
      → table_length (with_change other o).table ≡ left_entries (table_length other.table) o
      → IsFound store o → IsHere store o → Answers store o → CanChange store o
      → IsSize (entries_after known.entries o) (table_length (with_change store o).table)
      (found_entries (entries_after known.entries o) later)
      ((at : ℕ) (x : Option ℕ) → first_entry later at ≡ Some x → at < entries_after known.entries o)
      → (table_length other.table ≡ found_entries known.entries (o ∷ later))
      ⊎ (table_length other.table ≡ known.entries)
      → (table_length (with_change other o).table ≡ found_entries (entries_after known.entries o) later)
      ⊎ (table_length (with_change other o).table ≡ entries_after known.entries o)
  count_after (ReachesEntry index found) answers here possible long is store_here store_answers can s h =
      go (nat_lt index known.entries) refl s h
    where
      go : (b : Bool) → nat_lt index known.entries ≡ b
          → IsSize (cond b known.entries found) (table_length store.table)
          (found_entries (cond b known.entries found) later)
          ((at : ℕ) (x : Option ℕ) → first_entry later at ≡ Some x → at < cond b known.entries found)
          → (table_length other.table ≡ cond b (found_entries known.entries later) found)
          ⊎ (table_length other.table ≡ known.entries)
          → (table_length other.table ≡ found_entries (cond b known.entries found) later)
          ⊎ (table_length other.table ≡ cond b known.entries found)
      go true e s h = h
      go false e s (inl h) =
          inl
          (h ∙ sym (size_found found (table_length store.table) (found_entries found later) _ (sym is) s))
      go false e s (inr h) = inr (past_entries other.table known.entries index found answers here e h)
  count_after (ResizesTable found left func) answers here possible long is store_here store_answers can s h =
      let size : table_length other.table ≡ found = entries_there other.table found here answers in
      let more : found ≤ left = possible in
      let sum : found + (left - found) ≡ left = omega (arith, more) in
      inl (long ∙ ap (λ n. n + (left - found)) size ∙ sum ∙ sym same)
    where
      same : found_entries left later ≡ left
      same = resized_found store found left func later _ store_here store_answers can s
  count_after (WritesEntry index func) answers here possible long is store_here store_answers can s (inl h) =
      inl (long ∙ h)
  count_after (WritesEntry index func) answers here possible long is store_here store_answers can s (inr h) =
      inr (long ∙ h)
  count_after o answers here possible long is store_here store_answers can s h = h

  -- what the store holds after an observation
  pub less_after : HoldsLess (known_after known o) later after
  less_after =
      record {
        pages = size_after o answers here possible changed.long less.pages;
        entries =
            count_after o answers here possible changed.entries seen.found seen.here seen.answers seen.possible
            real.entries less.entries;
        byte = λ at.
            lack_after (read_byte at o) (written_byte at o) (first_byte later at) (byte_of store.memory at)
            (byte_of (with_change store o).memory at) (known.byte at) (byte_of other.memory at)
            (byte_of after.memory at) (touched_byte known store o seen at) (byte_touched at) (real.byte at)
            (first_copied (o ∷ later) at ≡ None) (first_copied later at ≡ None)
            (λ r w.
            untouched (copied_byte at o) (read_byte at o) (written_byte at o) (first_copied later at)
            (uncopied at o r) r w)
            (less.byte at);
        entry = λ at.
            lack_after (read_entry at o) (written_entry at o) (first_entry later at) (entry_of store.table at)
            (entry_of (with_change store o).table at) (known.entry at) (entry_of other.table at)
            (entry_of after.table at) (touched_entry known store o seen at) (entry_touched at) (real.entry at)
            (Unit {0}) (Unit {0}) (λ r w free. free) (less.entry at);
        global = λ at.
            lack_after (read_global at o) (written_global at o) (first_global later at)
            (slice_get store.globals at) (slice_get (with_change store o).globals at) (known.global at)
            (slice_get other.globals at) (slice_get after.globals at) (touched_global known store o seen at)
            (global_touched at) (real.global at) (Unit {0}) (Unit {0}) (λ r w free. free) (less.global at);
      }

  -- the sizes before an observation
  size_before : (o : Observation) → Answers other o → IsHere other o
      → memory_length (with_change other o).memory ≡ left_bytes (memory_length other.memory) o
      → (memory_length other.memory ≡ found_pages known.pages (o ∷ later) * PAGE_SIZE)
      ⊎ (memory_length other.memory ≡ known.pages * PAGE_SIZE)
      → memory_length (with_change other o).memory ≡ found_pages (pages_after known.pages o) later * PAGE_SIZE
      → memory_length other.memory ≡ found_pages known.pages (o ∷ later) * PAGE_SIZE
  size_before (Reaches end found) answers here long h held = go (nat_le end (known.pages * PAGE_SIZE)) refl h held
    where
      go : (b : Bool) → nat_le end (known.pages * PAGE_SIZE) ≡ b
          → (memory_length other.memory ≡ cond b (found_pages known.pages later) found * PAGE_SIZE)
          ⊎ (memory_length other.memory ≡ known.pages * PAGE_SIZE)
          → memory_length other.memory ≡ found_pages (cond b known.pages found) later * PAGE_SIZE
          → memory_length other.memory ≡ cond b (found_pages known.pages later) found * PAGE_SIZE
      go true e h held = held
      go false e (inl h) held = h
      go false e (inr h) held = past_pages other.memory known.pages end found answers here e h
  size_before (Resizes found left) answers here long h held = own_pages other.memory known.pages found here answers h
  size_before (Writes address bytes) answers here long h held = sym long ∙ held
  size_before o answers here long h held = held

  count_before : (o : Observation) → Answers other o → IsHere other o
      → table_length (with_change other o).table ≡ left_entries (table_length other.table) o
      → (table_length other.table ≡ found_entries known.entries (o ∷ later))
      ⊎ (table_length other.table ≡ known.entries)
      → table_length (with_change other o).table ≡ found_entries (entries_after known.entries o) later
      → table_length other.table ≡ found_entries known.entries (o ∷ later)
  count_before (ReachesEntry index found) answers here long h held = go (nat_lt index known.entries) refl h held
    where
      go : (b : Bool) → nat_lt index known.entries ≡ b
          → (table_length other.table ≡ cond b (found_entries known.entries later) found)
          ⊎ (table_length other.table ≡ known.entries)
          → table_length other.table ≡ found_entries (cond b known.entries found) later
          → table_length other.table ≡ cond b (found_entries known.entries later) found
      go true e h held = held
      go false e (inl h) held = h
      go false e (inr h) held = past_entries other.table known.entries index found answers here e h
  count_before (ResizesTable found left func) answers here long h held =
      entries_there other.table found here answers
  count_before (WritesEntry index func) answers here long h held = sym long ∙ held
  count_before o answers here long h held = held

  -- a store that lacks nothing after an observation lacks nothing before it
  pub holds_before : Holds (known_after known o) later after → Holds known (o ∷ later) other
  holds_before held =
      record {
        pages = if_memory other.memory (found_pages known.pages (o ∷ later) * PAGE_SIZE) (λ there.
            size_before o answers here changed.long less.pages
            (bytes_there after.memory (found_pages (pages_after known.pages o) later * PAGE_SIZE)
            (there_too (λ m. m.max) other.memory after.memory (ap (λ (m : Maxima). m.pages) changed.same) there)
            held.pages));
        entries = if_table other.table (found_entries known.entries (o ∷ later)) (λ there.
            count_before o answers here changed.entries less.entries
            (entries_there after.table (found_entries (entries_after known.entries o) later)
            (there_too (λ t. t.max) other.table after.table (ap (λ (m : Maxima). m.entries) changed.same) there)
            held.entries));
        byte = λ at.
            none_before (read_byte at o) (written_byte at o) (first_byte later at) (known.byte at)
            (byte_of other.memory at) (byte_of after.memory at) (first_copied (o ∷ later) at ≡ None)
            (byte_touched at) (held.byte at) (less.byte at);
        entry = λ at.
            none_before (read_entry at o) (written_entry at o) (first_entry later at) (known.entry at)
            (entry_of other.table at) (entry_of after.table at) (Unit {0}) (entry_touched at) (held.entry at)
            (less.entry at);
        global = λ at.
            none_before (read_global at o) (written_global at o) (first_global later at) (known.global at)
            (slice_get other.globals at) (slice_get after.globals at) (Unit {0}) (global_touched at) (held.global at)
            (less.global at);
      }
