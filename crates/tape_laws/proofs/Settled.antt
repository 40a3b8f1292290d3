-- What a window needs of a place that it touched, or of a size that it saw: nothing more, since what it reads is real.
use Rattle.std.proofs.Common.{◌≡◌, ℕ, ◌+◌, ◌-◌, ◌≤◌, List, [], ◌∷◌, Option, Some, None, Bool, true, cond, nat_eq, slice_get, refl, sym, ap, ◌∙◌, subst, arith, inl, inr}
use Rattle.std.specs.Prelude.{◌⊎◌, unwrap_or}
use Rattle.std.specs.Option.{option_or}
use Rattle.std.proofs.lemmas.Option.{none-some, same_Some}
use Rattle.base.proofs.Booleans.{own_number}
use Rattle.history_spec.specs.Store.{Store}
use Rattle.history_spec.specs.Instantiation.{table_length}
use Rattle.record_replay_spec.specs.Observations.{Observation, Reaches, Resizes, ReachesEntry, ResizesTable}
use Rattle.record_replay_spec.specs.Known.{Known, byte_of, entry_of, pages_of, read_byte, written_byte, read_entry, written_entry, read_global, written_global, pages_after, entries_after, known_after}
use Rattle.record_replay_spec.specs.Alike.{same_option, same_value}
use Rattle.record_replay_spec.specs.Windows.{unless_some, first_byte, first_entry, first_global}
use Rattle.record_replay_spec.specs.Needed.{needed}
use Rattle.record_replay_spec.specs.Changes.{with_change}
use Rattle.record_replay_spec.proofs.Alike.{own_option, own_value}
use Rattle.tape_laws.proofs.Relation.{IsSize, IsReadOf, IsSeen}
use Rattle.tape_laws.proofs.Changes.{IsChangedBy, left_pages, left_entries, changed_by}
use Rattle.tape_laws.proofs.Items.{one_byte, one_entry, one_global, size_found, pages_there, entries_there}
use Rattle.tape_laws.proofs.StepItems.{read_of_all}
use Rattle.tape_laws.proofs.Agrees.{SeesPages, SeesEntries, IsSettled}

-- ---- one place

-- the value that an observation carries is left
carried_left : {X : Type 0} (read written : Option X) (found left x : X) → (read ≡ None) ⊎ (written ≡ None)
    → ((y : X) → read ≡ Some y → found ≡ y) → left ≡ unwrap_or written found → option_or read written ≡ Some x
    → left ≡ x
carried_left (Some y) (Some z) found left x one real is h = go one
  where
    go : (Some y ≡ None) ⊎ (Some z ≡ None) → left ≡ x
    go (inl e) = absurd (none-some y (sym e))
    go (inr e) = absurd (none-some z (sym e))
carried_left (Some y) None found left x one real is h = is ∙ real x h
carried_left None (Some z) found left x one real is h = is ∙ same_Some z x h
carried_left None None found left x one real is h = absurd (none-some x h)

-- if the known value is the real one, and so is what is read first, nothing is needed
not_needed : {X : Type 0} (same : X → X → Bool) → ((a : X) → same a a ≡ true) → (known real : X) (first : Option X)
    → real ≡ known → ((y : X) → first ≡ Some y → real ≡ y) → needed same known first ≡ None
not_needed same own known real None is reads = refl
not_needed same own known real (Some y) is reads =
    subst (λ z. cond (same known z) None (Some z) ≡ None) (sym is ∙ reads y refl)
    (ap (λ b. cond b None (Some known)) (own known))

-- the value that an observation reads is the first that is read
first_of : {X : Type 0} (read written later : Option X) (x : X) → read ≡ Some x
    → option_or read (unless_some written later) ≡ Some x
first_of (Some y) written later x h = h
first_of None written later x h = absurd (none-some x h)

-- nothing is needed of a place after an observation that touches it
place_settled : {X : Type 0} (same : X → X → Bool) → ((a : X) → same a a ≡ true) → (read written later : Option X)
    (found left x : X) → (read ≡ None) ⊎ (written ≡ None)
    → ((y : X) → option_or read (unless_some written later) ≡ Some y → found ≡ y) → left ≡ unwrap_or written found
    → ((y : X) → later ≡ Some y → left ≡ y) → option_or read written ≡ Some x → needed same x later ≡ None
place_settled same own read written later found left x one before is reads h =
    not_needed same own x left later
    (carried_left read written found left x one (λ y r. before y (first_of read written later y r)) is h) reads

-- ---- a size

size_not_needed : (known real found : ℕ) (Within : Type 0) → real ≡ known → IsSize known real found Within
    → needed nat_eq known (Some found) ≡ None
size_not_needed known real found Within is size =
    subst (λ n. cond (nat_eq known n) None (Some n) ≡ None) (sym (size_found known real found Within (sym is) size))
    (ap (λ b. cond b None (Some known)) (own_number known))

resized_left : (real found left : ℕ) → real ≡ found → found ≤ left → real + (left - found) ≡ left
resized_left real found left is fits = omega (arith, is, fits)

module _ (known : Known) (store : Store) where
  pub seen_pages : (o : Observation) → IsSeen known store o → SeesPages known.pages o
      → left_pages (pages_of store.memory) o ≡ pages_after known.pages o
  seen_pages (Reaches end found) seen sees =
      seen.found ∙ sym (ap (λ b. cond b known.pages found) sees)
  seen_pages (Resizes found left) seen sees =
      resized_left (pages_of store.memory) found left (pages_there store.memory found seen.here seen.answers)
      seen.possible
  seen_pages o seen sees = absurd sees

  seen_entries : (o : Observation) → IsSeen known store o → SeesEntries known.entries o
      → left_entries (table_length store.table) o ≡ entries_after known.entries o
  seen_entries (ReachesEntry index found) seen sees =
      seen.found ∙ sym (ap (λ b. cond b known.entries found) sees)
  seen_entries (ResizesTable found left func) seen sees =
      resized_left (table_length store.table) found left (entries_there store.table found seen.here seen.answers)
      seen.possible
  seen_entries o seen sees = absurd sees

  -- after an observation of a store, what it touched and saw is known as it is
  pub settled : (o : Observation) (window : List Observation) → IsSeen known store o
      → IsReadOf (known_after known o) window (with_change store o) → IsSettled known o window
  settled o window seen reads =
      record {
        pages = λ sees. size_not_needed _ _ _ _ (left.pages ∙ seen_pages o seen sees) reads.pages;
        entries = λ sees. size_not_needed _ _ _ _ (left.entries ∙ seen_entries o seen sees) reads.entries;
        byte = λ at x.
            place_settled nat_eq own_number (read_byte at o) (written_byte at o) (first_byte window at)
            (byte_of store.memory at) (byte_of after.memory at) x (one_byte at o) (before.byte at) (left.byte at)
            (reads.byte at);
        entry = λ at x.
            place_settled (same_option nat_eq) (own_option nat_eq own_number) (read_entry at o) (written_entry at o)
            (first_entry window at) (entry_of store.table at) (entry_of after.table at) x (one_entry at o)
            (before.entry at) (left.entry at) (reads.entry at);
        global = λ at x.
            place_settled (same_option same_value) (own_option same_value own_value) (read_global at o)
            (written_global at o) (first_global window at) (slice_get store.globals at) (slice_get after.globals at) x
            (one_global at o) (before.global at) (left.global at) (reads.global at);
      }
    where
      after : Store
      after = with_change store o

      left : IsChangedBy store o after
      left = changed_by store o seen.here seen.answers seen.possible

      before : IsReadOf known (o ∷ window) store
      before = read_of_all window known store (o ∷ []) (seen, tt) reads
