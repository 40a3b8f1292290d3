-- The store of the tape's run answers what the run's store shows, and holds what is needed afterwards.
use Rattle.std.proofs.Common.{◌≡◌, ℕ, ◌+◌, ◌-◌, ◌*◌, ◌/◌, ◌<◌, ◌≤◌, List, ◌∷◌, length, Option, Some, None, Bool, true, false, cond, nat_le, nat_lt, slice_get, refl, sym, ap, ◌∙◌, subst, arith}
use Rattle.std.specs.Prelude.{IfSome, unwrap_or}
use Rattle.std.specs.Option.{option_or}
use Rattle.std.proofs.lemmas.Nat.{div-mul-add}
use Rattle.std.proofs.lemmas.Bool.Decides.{nat_tests}
use Rattle.base.proofs.Booleans.{own_number}
use Rattle.wasm_syntax.specs.declared.limits.TheConstants.{PAGE_SIZE}
use Rattle.history_spec.specs.Store.{Store, Memory, Table, pages}
use Rattle.history_spec.specs.Instantiation.{memory_length, table_length}
use Rattle.record_replay_spec.specs.Observations.{Observation, Reads, Copies, Writes, Reaches, Resizes, ReadsEntry, WritesEntry, ReachesEntry, ResizesTable, ReadsGlobal}
use Rattle.record_replay_spec.specs.Known.{Known, byte_of, entry_of, pages_of, read_byte, written_byte, read_entry, written_entry, read_global, written_global, pages_after, entries_after, known_after}
use Rattle.record_replay_spec.specs.Windows.{unless_some, first_byte, first_entry, first_global, found_pages, found_entries}
use Rattle.record_replay_spec.specs.StoreAnswers.{IsReachedAlike, Answers}
use Rattle.record_replay_spec.specs.Changes.{CanChange, with_change}
use Rattle.tape_laws.proofs.Stores.{IsHere}
use Rattle.tape_laws.proofs.Relation.{IsKnownOf, IsSize, Seen, Unseen, IsReadOf, Holds, IsFound, IsSeen}
use Rattle.tape_laws.proofs.Places.{held_after}
use Rattle.tape_laws.proofs.Changes.{IsChangedBy, left_entries, left_bytes, changed_by}
use Rattle.tape_laws.proofs.Items.{size_found, pages_there, entries_there, bytes_there, if_bytes, if_entries, touched_byte, touched_entry, touched_global}

pub whole_pages : (n k : ℕ) → n ≡ k * PAGE_SIZE → n / PAGE_SIZE ≡ k
whole_pages n k e =
    ap (λ n. n / PAGE_SIZE) e
    ∙ ap (λ n. n / PAGE_SIZE) (let z : k * 65536 ≡ k * 65536 + 0 = omega arith in z)
    ∙ div-mul-add k 65536 0 (omega arith)

-- once the table is resized, the rest of the window finds its size
pub resized_found : (store : Store) (found left : ℕ) (func : Option ℕ) (later : List Observation) (Within : Type 0)
    → IsHere store (ResizesTable found left func) → Answers store (ResizesTable found left func)
    → CanChange store (ResizesTable found left func)
    → IsSize left (table_length (with_change store (ResizesTable found left func)).table) (found_entries left later)
    Within
    → found_entries left later ≡ left
resized_found store found left func later Within here answers possible s =
    size_found left (table_length (with_change store (ResizesTable found left func)).table) (found_entries left later)
    Within (sym real_is) s
  where
    real_is : table_length (with_change store (ResizesTable found left func)).table ≡ left
    real_is =
        let c = changed_by store (ResizesTable found left func) here answers possible in
        let p : table_length store.table ≡ found = entries_there store.table found here answers in
        let q : table_length (with_change store (ResizesTable found left func)).table
        ≡ table_length store.table + (left - found) = c.entries in
        let more : found ≤ left = possible in
        omega (arith, p, q, more)

-- an access is within the held size if and only if it was within the store's
module _ (known found : ℕ) (more : known ≤ found) where
  reach : (end later n : ℕ) (b : Bool) → nat_le end (known * PAGE_SIZE) ≡ b → (b ≡ true → known ≤ later)
      → n ≡ cond b later found * PAGE_SIZE
      → IsReachedAlike (nat_le end n) (nat_le end (found * PAGE_SIZE)) (n / PAGE_SIZE) found
  reach end later n true p most q =
      let fits : end ≤ known * 65536 = grind (arith, nat_tests, p) in
      let n_is : n ≡ later * 65536 = q in
      let low = most refl in
      let a : end ≤ n = omega (arith, fits, n_is, low) in
      let b : end ≤ found * 65536 = omega (arith, fits, more) in
      let ta : nat_le end n ≡ true = grind (arith, nat_tests, a) in
      let tb : nat_le end (found * 65536) ≡ true = grind (arith, nat_tests, b) in
      record { alike = ta ∙ sym tb; same = λ f. cc }
  reach end later n false p most q = record { alike = ap (nat_le end) q; same = λ f. whole_pages n found q }

  reach_entry : (index later n : ℕ) (b : Bool) → nat_lt index known ≡ b → (b ≡ true → known ≤ later)
      → n ≡ cond b later found → IsReachedAlike (nat_lt index n) (nat_lt index found) n found
  reach_entry index later n true p most q =
      let below : index < known = grind (arith, nat_tests, p) in
      let n_is : n ≡ later = q in
      let low = most refl in
      let a : index < n = omega (arith, below, n_is, low) in
      let b : index < found = omega (arith, below, more) in
      let ta : nat_lt index n ≡ true = grind (arith, nat_tests, a) in
      let tb : nat_lt index found ≡ true = grind (arith, nat_tests, b) in
      record { alike = ta ∙ sym tb; same = λ f. cc }
  reach_entry index later n false p most q = record { alike = ap (nat_lt index) q; same = λ f. q }

-- if an access does not see the size, the size that the rest finds is at least the known one
no_less : (b : Bool) (known real found : ℕ) (finds : ℕ → ℕ) (Within : Type 0) → known ≤ found → real ≡ found
    → IsSize (cond b known found) real (finds (cond b known found)) Within → b ≡ true → known ≤ finds known
no_less false known real found finds Within more real_is s e = cc
no_less true known real found finds Within more real_is (Seen is) e = omega (arith, is, more, real_is)
no_less true known real found finds Within more real_is (Unseen is fits) e = omega (arith, is)

module _ (known : Known) (store : Store) (k : IsKnownOf known store) where
  module _ (o : Observation) (seen : IsSeen known store o) (later : List Observation)
      (real : IsReadOf (known_after known o) later (with_change store o)) (other : Store)
      (holds : Holds known (o ∷ later) other) where
    -- the other store answers the observation
    pub held_answers : Answers other o
    held_answers = go o seen.found real.pages real.entries holds
      where
        go : (o : Observation) → IsFound store o
            → IsSize (pages_after known.pages o) (pages_of (with_change store o).memory)
            (found_pages (pages_after known.pages o) later)
            ((at x : ℕ) → first_byte later at ≡ Some x → at < pages_after known.pages o * PAGE_SIZE)
            → IsSize (entries_after known.entries o) (table_length (with_change store o).table)
            (found_entries (entries_after known.entries o) later)
            ((at : ℕ) (x : Option ℕ) → first_entry later at ≡ Some x → at < entries_after known.entries o)
            → Holds known (o ∷ later) other → Answers other o
        go (Reads address bytes) is s t h =
            λ at byte e. h.byte at
            ∙ ap (λ (o : Option ℕ). unwrap_or (option_or o (unless_some None (first_byte later at))) (known.byte at)) e
        go (Copies address bytes) is s t h =
            λ at byte e. h.byte at
            ∙ ap (λ (o : Option ℕ). unwrap_or (option_or o (unless_some None (first_byte later at))) (known.byte at)) e
        go (ReadsEntry index func) is s t h =
            h.entry index
            ∙ ap
            (λ b. unwrap_or (option_or (cond b (Some func) None) (unless_some None (first_entry later index)))
            (known.entry index))
            (own_number index)
        go (ReadsGlobal x value) is s t h =
            h.global x
            ∙ ap
            (λ b. unwrap_or (option_or (cond b (Some (Some value)) None) (unless_some None (first_global later x)))
            (known.global x))
            (own_number x)
        go (Resizes found left) is s t h = there other.memory h.pages
          where
            there : (o : Option Memory) → IfSome o (λ m. length m.bytes ≡ found * PAGE_SIZE)
                → IfSome o (λ memory. pages memory ≡ found)
            there None e = tt
            there (Some m) e = whole_pages (length m.bytes) found e
        go (ResizesTable found left func) is s t h = h.entries
        go (Reaches end found) is s t h = there other.memory h.pages
          where
            fits : Bool
            fits = nat_le end (known.pages * PAGE_SIZE)

            more : known.pages ≤ found
            more = subst (λ n. known.pages ≤ n) is k.pages

            low : fits ≡ true → known.pages ≤ found_pages known.pages later
            low = no_less fits known.pages _ found (λ n. found_pages n later) _ more is s

            there : (o : Option Memory)
                → IfSome o (λ m. length m.bytes ≡ found_pages known.pages (Reaches end found ∷ later) * PAGE_SIZE)
                → IfSome o (λ memory. IsReachedAlike (nat_le end (length memory.bytes))
                (nat_le end (found * PAGE_SIZE)) (pages memory) found)
            there None e = tt
            there (Some m) e =
                reach known.pages found more end (found_pages known.pages later) (length m.bytes) fits refl low e
        go (ReachesEntry index found) is s t h = there other.table h.entries
          where
            fits : Bool
            fits = nat_lt index known.entries

            more : known.entries ≤ found
            more = subst (λ n. known.entries ≤ n) is k.entries

            low : fits ≡ true → known.entries ≤ found_entries known.entries later
            low = no_less fits known.entries _ found (λ n. found_entries n later) _ more is t

            there : (o : Option Table)
                → IfSome o (λ t. length t.entries ≡ found_entries known.entries (ReachesEntry index found ∷ later))
                → IfSome o (λ t. IsReachedAlike (nat_lt index (length t.entries)) (nat_lt index found)
                (length t.entries) found)
            there None e = tt
            there (Some t) e =
                reach_entry known.entries found more index (found_entries known.entries later) (length t.entries) fits
                refl low e
        go o is s t h = tt

    -- the store holds what is needed after the observation, which is possible in it
    pub holds_after : IsHere other o → CanChange other o → Holds (known_after known o) later (with_change other o)
    holds_after here possible =
        record {
          pages = size o seen.here seen.found seen.answers changed.long seen.possible here real.pages holds.pages;
          entries =
              count o seen.here seen.found seen.answers changed.entries seen.possible here real.entries holds.entries;
          byte = λ at.
              changed.byte at
              ∙ held_after (read_byte at o) (written_byte at o) (first_byte later at) (byte_of store.memory at)
              (byte_of (with_change store o).memory at) (known.byte at) (byte_of other.memory at)
              (touched_byte known store o seen at) (real.byte at) (holds.byte at);
          entry = λ at.
              changed.entry at
              ∙ held_after (read_entry at o) (written_entry at o) (first_entry later at) (entry_of store.table at)
              (entry_of (with_change store o).table at) (known.entry at) (entry_of other.table at)
              (touched_entry known store o seen at) (real.entry at) (holds.entry at);
          global = λ at.
              changed.global at
              ∙ held_after (read_global at o) (written_global at o) (first_global later at)
              (slice_get store.globals at) (slice_get (with_change store o).globals at) (known.global at)
              (slice_get other.globals at) (touched_global known store o seen at) (real.global at) (holds.global at);
        }
      where
        changed : IsChangedBy other o (with_change other o)
        changed = changed_by other o here held_answers possible

        size : (o : Observation) → IsHere store o → IsFound store o → Answers store o
            → memory_length (with_change other o).memory ≡ left_bytes (memory_length other.memory) o
            → CanChange store o → IsHere other o
            → IsSize (pages_after known.pages o) (pages_of (with_change store o).memory)
            (found_pages (pages_after known.pages o) later)
            ((at x : ℕ) → first_byte later at ≡ Some x → at < pages_after known.pages o * PAGE_SIZE)
            → IfSome other.memory (λ m. length m.bytes ≡ found_pages known.pages (o ∷ later) * PAGE_SIZE)
            → IfSome (with_change other o).memory
            (λ m. length m.bytes ≡ found_pages (pages_after known.pages o) later * PAGE_SIZE)
        size (Reaches end found) here is answers long possible there s h =
            subst (λ n. IfSome other.memory (λ m. length m.bytes ≡ n * PAGE_SIZE))
            (go (nat_le end (known.pages * PAGE_SIZE)) s) h
          where
            go : (b : Bool)
                → IsSize (cond b known.pages found) (pages_of store.memory)
                (found_pages (cond b known.pages found) later)
                ((at x : ℕ) → first_byte later at ≡ Some x → at < cond b known.pages found * PAGE_SIZE)
                → cond b (found_pages known.pages later) found ≡ found_pages (cond b known.pages found) later
            go true s = refl
            go false s = sym (size_found found (pages_of store.memory) (found_pages found later) _ (sym is) s)
        size (Resizes found left) here is answers long possible there s h =
            if_bytes (with_change other (Resizes found left)).memory (found_pages left later * PAGE_SIZE)
            (long ∙ ap (λ n. n + (left - found) * PAGE_SIZE) now ∙ sum ∙ ap (λ n. n * PAGE_SIZE) (sym same))
          where
            now : memory_length other.memory ≡ found * PAGE_SIZE
            now = bytes_there other.memory (found * PAGE_SIZE) there h

            sum : found * PAGE_SIZE + (left - found) * PAGE_SIZE ≡ left * PAGE_SIZE
            sum = let more : found ≤ left = possible in omega (arith, more)

            real_is : pages_of (with_change store (Resizes found left)).memory ≡ left
            real_is =
                let c = changed_by store (Resizes found left) here answers possible in
                let p : pages_of store.memory ≡ found = pages_there store.memory found here answers in
                let q : pages_of (with_change store (Resizes found left)).memory
                ≡ pages_of store.memory + (left - found) = c.pages in
                let more : found ≤ left = possible in
                omega (arith, p, q, more)

            same : found_pages left later ≡ left
            same = size_found left (pages_of (with_change store (Resizes found left)).memory) (found_pages left later) _
                (sym real_is) s
        size (Writes address bytes) here is answers long possible there s h =
            if_bytes (with_change other (Writes address bytes)).memory (found_pages known.pages later * PAGE_SIZE)
            (long ∙ bytes_there other.memory (found_pages known.pages later * PAGE_SIZE) there h)
        size o here is answers long possible there s h = h

        count : (o : Observation) → IsHere store o → IsFound store o → Answers store o
            → table_length (with_change other o).table ≡ left_entries (table_length other.table) o
            → CanChange store o → IsHere other o
            → IsSize (entries_after known.entries o) (table_length (with_change store o).table)
            (found_entries (entries_after known.entries o) later)
            ((at : ℕ) (x : Option ℕ) → first_entry later at ≡ Some x → at < entries_after known.entries o)
            → IfSome other.table (λ t. length t.entries ≡ found_entries known.entries (o ∷ later))
            → IfSome (with_change other o).table
            (λ t. length t.entries ≡ found_entries (entries_after known.entries o) later)
        count (ReachesEntry index found) here is answers long possible there s h =
            subst (λ n. IfSome other.table (λ t. length t.entries ≡ n)) (go (nat_lt index known.entries) s) h
          where
            go : (b : Bool)
                → IsSize (cond b known.entries found) (table_length store.table)
                (found_entries (cond b known.entries found) later)
                ((at : ℕ) (x : Option ℕ) → first_entry later at ≡ Some x → at < cond b known.entries found)
                → cond b (found_entries known.entries later) found ≡ found_entries (cond b known.entries found) later
            go true s = refl
            go false s = sym (size_found found (table_length store.table) (found_entries found later) _ (sym is) s)
        count (ResizesTable found left func) here is answers long possible there s h =
            if_entries (with_change other (ResizesTable found left func)).table (found_entries left later)
            (long ∙ ap (λ n. n + (left - found)) now ∙ sum ∙ sym same)
          where
            now : table_length other.table ≡ found
            now = entries_there other.table found there h

            sum : found + (left - found) ≡ left
            sum = let more : found ≤ left = possible in omega (arith, more)

            same : found_entries left later ≡ left
            same = resized_found store found left func later _ here answers possible s
        count (WritesEntry index func) here is answers long possible there s h =
            if_entries (with_change other (WritesEntry index func)).table (found_entries known.entries later)
            (long ∙ entries_there other.table (found_entries known.entries later) there h)
        count o here is answers long possible there s h = h
