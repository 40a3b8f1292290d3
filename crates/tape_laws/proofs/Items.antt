-- An observation of a run's store, beside what the store of the tape's run holds.
use Rattle.std.proofs.Common.{◌≡◌, ℕ, ◌+◌, ◌-◌, ◌*◌, ◌<◌, ◌≤◌, List, ◌∷◌, length, Option, Some, None, Bool, true, false, cond, nat_le, nat_lt, nat_eq, slice_get, refl, sym, ◌∙◌, subst, arith, inl, inr}
use Rattle.std.specs.Prelude.{◌⊎◌, IfSome, option_map, unwrap_or}
use Rattle.std.specs.Option.{option_or}
use Rattle.std.proofs.lemmas.Bool.Decides.{nat_tests}
use Rattle.std.proofs.lemmas.Option.{none-some, same_Some}
use Rattle.base.proofs.Options.{cond_some}
use Rattle.wasm_syntax.specs.declared.limits.TheConstants.{PAGE_SIZE}
use Rattle.wasm_syntax.specs.declared.values.Val.{Val}
use Rattle.history_spec.specs.Store.{Store, Memory, Table, pages}
use Rattle.history_spec.specs.Instantiation.{memory_length, table_length}
use Rattle.record_replay_spec.specs.Observations.{Observation, Reads, Copies, Writes, Reaches, Resizes, ReadsEntry, ReachesEntry, ResizesTable, ReadsGlobal}
use Rattle.record_replay_spec.specs.Known.{Known, byte_of, entry_of, pages_of, read_byte, written_byte, read_entry, written_entry, read_global, written_global, carried_byte, carried_entry, pages_after, entries_after, known_after}
use Rattle.record_replay_spec.specs.Windows.{unless_some, first_byte, first_entry, first_global, found_pages, found_entries}
use Rattle.record_replay_spec.specs.StoreAnswers.{Answers}
use Rattle.record_replay_spec.specs.Changes.{CanChange, with_change}
use Rattle.tape_laws.proofs.Stores.{IsThere, IsHere}
use Rattle.tape_laws.proofs.Relation.{IsKnownOf, IsSize, Seen, Unseen, IsReadOf, IsFound, IsSeen}
use Rattle.tape_laws.proofs.Places.{IsTouched, found_before, part_after}
use Rattle.tape_laws.proofs.Changes.{IsChangedBy, left_pages, left_entries, changed_by}

-- ---- places that an observation touches

pub one_byte : (at : ℕ) (o : Observation) → (read_byte at o ≡ None) ⊎ (written_byte at o ≡ None)
one_byte at (Writes address bytes) = inl refl
one_byte at o = inr refl

pub one_entry : (at : ℕ) (o : Observation) → (read_entry at o ≡ None) ⊎ (written_entry at o ≡ None)
one_entry at (ReadsEntry index func) = inr refl
one_entry at o = inl refl

pub one_global : (at : ℕ) (o : Observation) → (read_global at o ≡ None) ⊎ (written_global at o ≡ None)
one_global at (ReadsGlobal global value) = inr refl
one_global at o = inl refl

pub read_bytes : (store : Store) (o : Observation) → Answers store o → (at x : ℕ) → read_byte at o ≡ Some x
    → byte_of store.memory at ≡ x
read_bytes store (Reads address bytes) answers at x h = answers at x h
read_bytes store (Copies address bytes) answers at x h = answers at x h
read_bytes store o answers at x h = absurd (none-some x h)

pub read_entries : (store : Store) (o : Observation) → Answers store o → (at : ℕ) (x : Option ℕ)
    → read_entry at o ≡ Some x → entry_of store.table at ≡ x
read_entries store (ReadsEntry index func) answers at x h =
    let p = cond_some (nat_eq index at) (Some func) x h in
    let t = p.0 in
    let same : index ≡ at = grind (arith, nat_tests, t) in
    subst (λ n. entry_of store.table n ≡ x) same (answers ∙ same_Some func x p.1)
read_entries store o answers at x h = absurd (none-some x h)

pub read_globals : (store : Store) (o : Observation) → Answers store o → (at : ℕ) (x : Option Val)
    → read_global at o ≡ Some x → slice_get store.globals at ≡ x
read_globals store (ReadsGlobal global value) answers at x h =
    let p = cond_some (nat_eq global at) (Some (Some value)) x h in
    let t = p.0 in
    let same : global ≡ at = grind (arith, nat_tests, t) in
    subst (λ n. slice_get store.globals n ≡ x) same (answers ∙ same_Some (Some value) x p.1)
read_globals store o answers at x h = absurd (none-some x h)

-- ---- sizes

-- the size that is found before an observation that sees no size
other_size : {X : Type 0} (known real after found : ℕ) (read written later : ℕ → Option X) (limit : ℕ)
    → after ≡ real → ((at : ℕ) (x : X) → option_or (read at) (written at) ≡ Some x → at < limit)
    → IsSize known after found ((at : ℕ) (x : X) → later at ≡ Some x → at < limit)
    → IsSize known real found
    ((at : ℕ) (x : X) → option_or (read at) (unless_some (written at) (later at)) ≡ Some x → at < limit)
other_size known real after found read written later limit same carried (Seen is) = Seen (is ∙ same)
other_size {X = X} known real after found read written later limit same carried (Unseen is fits) =
    Unseen is (λ at x h. go at x (read at) (written at) (carried at x) h)
  where
    go : (at : ℕ) (x : X) (r w : Option X) → (option_or r w ≡ Some x → at < limit)
        → option_or r (unless_some w (later at)) ≡ Some x → at < limit
    go at x (Some y) w c h = c h
    go at x None (Some z) c h = absurd (none-some x h)
    go at x None None c h = fits at x h

-- the size that is found before an access, by whether the access is within the known size
reached_size : (b : Bool) (known real : ℕ) (found : ℕ → ℕ) (Within : ℕ → Type 0)
    → IsSize (cond b known real) real (found (cond b known real)) (Within (cond b known real))
    → IsSize known real (cond b (found known) real) (Within known)
reached_size true known real found Within s = s
reached_size false known real found Within s = Seen refl

-- if the known size is the store's, it is found
pub size_found : (known real found : ℕ) (Within : Type 0) → known ≡ real → IsSize known real found Within
    → found ≡ known
size_found known real found Within same (Seen is) = is ∙ sym same
size_found known real found Within same (Unseen is fits) = is

pub pages_there : (o : Option Memory) (n : ℕ) → IsThere o → IfSome o (λ m. pages m ≡ n) → pages_of o ≡ n
pages_there None n here h = absurd (none-some here.0 here.1)
pages_there (Some m) n here h = h

pub entries_there : (o : Option Table) (n : ℕ) → IsThere o → IfSome o (λ t. length t.entries ≡ n) → table_length o ≡ n
entries_there None n here h = absurd (none-some here.0 here.1)
entries_there (Some t) n here h = h

pub bytes_there : (o : Option Memory) (n : ℕ) → IsThere o → IfSome o (λ m. length m.bytes ≡ n) → memory_length o ≡ n
bytes_there None n here h = absurd (none-some here.0 here.1)
bytes_there (Some m) n here h = h

pub if_bytes : (o : Option Memory) (n : ℕ) → memory_length o ≡ n → IfSome o (λ m. length m.bytes ≡ n)
if_bytes None n h = tt
if_bytes (Some m) n h = h

pub if_entries : (o : Option Table) (n : ℕ) → table_length o ≡ n → IfSome o (λ t. length t.entries ≡ n)
if_entries None n h = tt
if_entries (Some t) n h = h

pub record Between (low middle high : ℕ) : Type 0 where
  pub more : low ≤ middle
  pub fits : middle ≤ high

chosen : (b : Bool) (known real : ℕ) → known ≤ real → Between known (cond b known real) real
chosen true known real more = record { more = omega arith; fits = more }
chosen false known real more = record { more = more; fits = omega arith }

resized : (known real found left : ℕ) → known ≤ real → real ≡ found → found ≤ left
    → Between known left (real + (left - found))
resized known real found left more is grows =
    record { more = omega (arith, more, is, grows); fits = omega (arith, is, grows) }

module _ (known : Known) (store : Store) where
  pub pages_between : (o : Observation) → IsHere store o → IsFound store o → Answers store o → CanChange store o
      → known.pages ≤ pages_of store.memory
      → Between known.pages (pages_after known.pages o) (left_pages (pages_of store.memory) o)
  pages_between (Reaches end found) here is answers possible more =
      subst
      (λ n. Between known.pages (cond (nat_le end (known.pages * PAGE_SIZE)) known.pages n) (pages_of store.memory))
      is (chosen (nat_le end (known.pages * PAGE_SIZE)) known.pages (pages_of store.memory) more)
  pages_between (Resizes found left) here is answers possible more =
      resized known.pages (pages_of store.memory) found left more (pages_there store.memory found here answers) possible
  pages_between o here is answers possible more = record { more = omega arith; fits = more }

  pub entries_between : (o : Observation) → IsHere store o → IsFound store o → Answers store o → CanChange store o
      → known.entries ≤ table_length store.table
      → Between known.entries (entries_after known.entries o) (left_entries (table_length store.table) o)
  entries_between (ReachesEntry index found) here is answers possible more =
      subst (λ n. Between known.entries (cond (nat_lt index known.entries) known.entries n) (table_length store.table))
      is (chosen (nat_lt index known.entries) known.entries (table_length store.table) more)
  entries_between (ResizesTable found left func) here is answers possible more =
      resized known.entries (table_length store.table) found left more (entries_there store.table found here answers)
      possible
  entries_between o here is answers possible more = record { more = omega arith; fits = more }

  -- ---- an observation of the store

  module _ (o : Observation) (seen : IsSeen known store o) where
    abbrev after : Store
    after = with_change store o

    pub change : IsChangedBy store o after
    change = changed_by store o seen.here seen.answers seen.possible

    pub touched_byte : (at : ℕ)
        → IsTouched (read_byte at o) (written_byte at o) (byte_of store.memory at) (byte_of after.memory at)
    touched_byte at =
        record { reads = read_bytes store o seen.answers at; writes = change.byte at; one = one_byte at o }

    pub touched_entry : (at : ℕ)
        → IsTouched (read_entry at o) (written_entry at o) (entry_of store.table at) (entry_of after.table at)
    touched_entry at =
        record { reads = read_entries store o seen.answers at; writes = change.entry at; one = one_entry at o }

    pub touched_global : (at : ℕ)
        → IsTouched (read_global at o) (written_global at o) (slice_get store.globals at) (slice_get after.globals at)
    touched_global at =
        record { reads = read_globals store o seen.answers at; writes = change.global at; one = one_global at o }

    -- what is known after an observation fits the store that the observation leaves
    pub known_of_after : IsKnownOf known store → IsKnownOf (known_after known o) after
    known_of_after k =
        let p = pages_between o seen.here seen.found seen.answers seen.possible k.pages in
        let e = entries_between o seen.here seen.found seen.answers seen.possible k.entries in
        record {
          pages = subst (λ n. pages_after known.pages o ≤ n) (sym change.pages) p.fits;
          entries = subst (λ n. entries_after known.entries o ≤ n) (sym change.entries) e.fits;
          past_pages = λ at past. byte at (carried_byte at o) (seen.bytes at) past p.more;
          past_entries = λ at past. entry at (carried_entry at o) (seen.entries at) past e.more;
          types = λ at.
              part_after (option_map (λ value. value.ty)) (read_global at o) (written_global at o)
              (slice_get store.globals at) (slice_get after.globals at) (known.global at) (touched_global at)
              (k.types at);
        }
      where
        byte : (at : ℕ) (c : Option ℕ)
            → ((x : ℕ) → c ≡ Some x → at < pages_after known.pages o * PAGE_SIZE)
            → pages_after known.pages o * PAGE_SIZE ≤ at → known.pages ≤ pages_after known.pages o
            → unwrap_or c (known.byte at) ≡ 0
        byte at (Some x) within past more = let below = within x refl in absurd (omega (arith, below, past))
        byte at None within past more =
            let low : pages_after known.pages o * 65536 ≤ at = past in
            k.past_pages at (omega (arith, low, more))

        entry : (at : ℕ) (c : Option (Option ℕ))
            → ((x : Option ℕ) → c ≡ Some x → at < entries_after known.entries o)
            → entries_after known.entries o ≤ at → known.entries ≤ entries_after known.entries o
            → unwrap_or c (known.entry at) ≡ None
        entry at (Some x) within past more = let below = within x refl in absurd (omega (arith, below, past))
        entry at None within past more = k.past_entries at (omega (arith, past, more))

    module _ (later : List Observation) (real : IsReadOf (known_after known o) later after) where
      -- if the rest reads first what the store holds, so does the window with this observation in front
      pub read_of_before : IsReadOf known (o ∷ later) store
      read_of_before =
          record {
            byte = λ at x h.
                found_before (read_byte at o) (written_byte at o) (first_byte later at) (byte_of store.memory at)
                (byte_of after.memory at) x (touched_byte at) (real.byte at) h;
            entry = λ at x h.
                found_before (read_entry at o) (written_entry at o) (first_entry later at) (entry_of store.table at)
                (entry_of after.table at) x (touched_entry at) (real.entry at) h;
            global = λ at x h.
                found_before (read_global at o) (written_global at o) (first_global later at)
                (slice_get store.globals at) (slice_get after.globals at) x (touched_global at) (real.global at) h;
            pages = size o seen.here seen.found seen.answers change.pages seen.bytes real.pages;
            entries = count o seen.here seen.found seen.answers change.entries seen.entries real.entries;
          }
        where
          size : (o : Observation) → IsHere store o → IsFound store o → Answers store o
              → pages_of (with_change store o).memory ≡ left_pages (pages_of store.memory) o
              → ((at x : ℕ) → carried_byte at o ≡ Some x → at < pages_after known.pages o * PAGE_SIZE)
              → IsSize (pages_after known.pages o) (pages_of (with_change store o).memory)
              (found_pages (pages_after known.pages o) later)
              ((at x : ℕ) → first_byte later at ≡ Some x → at < pages_after known.pages o * PAGE_SIZE)
              → IsSize known.pages (pages_of store.memory) (found_pages known.pages (o ∷ later))
              ((at x : ℕ) → first_byte (o ∷ later) at ≡ Some x → at < known.pages * PAGE_SIZE)
          size (Reaches end found) here is answers changed carried s =
              subst
              (λ n. IsSize known.pages (pages_of store.memory)
              (cond (nat_le end (known.pages * PAGE_SIZE)) (found_pages known.pages later) n)
              ((at x : ℕ) → first_byte later at ≡ Some x → at < known.pages * PAGE_SIZE))
              is
              (reached_size (nat_le end (known.pages * PAGE_SIZE)) known.pages (pages_of store.memory)
              (λ n. found_pages n later) (λ n. (at x : ℕ) → first_byte later at ≡ Some x → at < n * PAGE_SIZE)
              (subst
              (λ f. IsSize (cond (nat_le end (known.pages * PAGE_SIZE)) known.pages f) (pages_of store.memory)
              (found_pages (cond (nat_le end (known.pages * PAGE_SIZE)) known.pages f) later)
              ((at x : ℕ) → first_byte later at ≡ Some x
              → at < cond (nat_le end (known.pages * PAGE_SIZE)) known.pages f * PAGE_SIZE))
              (sym is) s))
          size (Resizes found left) here is answers changed carried s =
              Seen (sym (pages_there store.memory found here answers))
          size o here is answers changed carried s =
              other_size known.pages (pages_of store.memory) (pages_of (with_change store o).memory)
              (found_pages known.pages later) (λ at. read_byte at o) (λ at. written_byte at o) (first_byte later)
              (known.pages * PAGE_SIZE) changed carried s

          count : (o : Observation) → IsHere store o → IsFound store o → Answers store o
              → table_length (with_change store o).table ≡ left_entries (table_length store.table) o
              → ((at : ℕ) (x : Option ℕ) → carried_entry at o ≡ Some x → at < entries_after known.entries o)
              → IsSize (entries_after known.entries o) (table_length (with_change store o).table)
              (found_entries (entries_after known.entries o) later)
              ((at : ℕ) (x : Option ℕ) → first_entry later at ≡ Some x → at < entries_after known.entries o)
              → IsSize known.entries (table_length store.table) (found_entries known.entries (o ∷ later))
              ((at : ℕ) (x : Option ℕ) → first_entry (o ∷ later) at ≡ Some x → at < known.entries)
          count (ReachesEntry index found) here is answers changed carried s =
              subst
              (λ n. IsSize known.entries (table_length store.table)
              (cond (nat_lt index known.entries) (found_entries known.entries later) n)
              ((at : ℕ) (x : Option ℕ) → first_entry later at ≡ Some x → at < known.entries))
              is
              (reached_size (nat_lt index known.entries) known.entries (table_length store.table)
              (λ n. found_entries n later) (λ n. (at : ℕ) (x : Option ℕ) → first_entry later at ≡ Some x → at < n)
              (subst
              (λ f. IsSize (cond (nat_lt index known.entries) known.entries f) (table_length store.table)
              (found_entries (cond (nat_lt index known.entries) known.entries f) later)
              ((at : ℕ) (x : Option ℕ) → first_entry later at ≡ Some x
              → at < cond (nat_lt index known.entries) known.entries f))
              (sym is) s))
          count (ResizesTable found left func) here is answers changed carried s =
              Seen (sym (entries_there store.table found here answers))
          count o here is answers changed carried s =
              other_size known.entries (table_length store.table) (table_length (with_change store o).table)
              (found_entries known.entries later) (λ at. read_entry at o) (λ at. written_entry at o)
              (first_entry later) known.entries changed carried s
