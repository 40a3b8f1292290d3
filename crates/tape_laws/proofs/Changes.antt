-- What an observation leaves at each place of a store.
use Rattle.std.proofs.Common.{◌≡◌, ℕ, zero, suc, ◌+◌, ◌-◌, ◌*◌, ◌/◌, ◌<◌, ◌≤◌, List, [], ◌∷◌, ◌++◌, length, take, drop, Option, Some, None, Bool, true, false, cond, ◌&&◌, nat_le, nat_lt, nat_eq, slice_get, slice_set, slice_index, refl, sym, ap, ◌∙◌, subst, arith, length-take-le, length-append, length-set}
use Rattle.std.specs.Prelude.{◌≢◌, IfSome, option_map, unwrap_or, replicate}
use Rattle.std.specs.Option.{option_flatten}
use Rattle.std.proofs.lemmas.Bool.Decides.{nat_tests}
use Rattle.std.proofs.lemmas.List.{get_or-drop, get_or-take, length-drop, get_or_append_left, get_or-append_right, get_or_past, get_or-replicate, length-replicate}
use Rattle.std.proofs.lemmas.Option.{slice_get-get_or, slice_get_past, none-some}
use Rattle.base.proofs.Lists.{get_front, get_after, set_there}
use Rattle.wasm_syntax.specs.declared.limits.TheConstants.{PAGE_SIZE}
use Rattle.wasm_syntax.specs.declared.values.Val.{Val}
use Rattle.history_spec.specs.Store.{Store, Memory, Table, zeros, with_items_at}
use Rattle.history_spec.specs.Instantiation.{memory_length, table_length}
use Rattle.record_replay_spec.specs.Observations.{Observation, Writes, Resizes, WritesEntry, ResizesTable, WritesGlobal}
use Rattle.record_replay_spec.specs.Known.{byte_among, byte_of, entry_of, pages_of, written_byte, written_entry, written_global}
use Rattle.record_replay_spec.specs.StoreAnswers.{Answers}
use Rattle.record_replay_spec.specs.Changes.{CanChange, with_change, with_pages}
use Rattle.record_replay_spec.proofs.Memories.{larger_size}
use Rattle.tape_laws.proofs.Stores.{IsThere, IsHere, maxima}

-- ---- lists

module _ (items news : List ℕ) (at : ℕ) (fits : at + length news ≤ length items) where
  front_length : length (take at items) ≡ at
  front_length = length-take-le at items (omega (arith, fits))

  pub with_items_length : length (with_items_at items at news) ≡ length items
  with_items_length =
      let a = length-append (take at items) (news ++ drop (at + length news) items) in
      let b = length-append news (drop (at + length news) items) in
      let c = length-drop (at + length news) items in
      let d = front_length in
      omega (arith, a, b, c, d, fits)

  pub with_items_index : (i : ℕ)
      → slice_index (with_items_at items at news) i ≡ unwrap_or (byte_among at news i) (slice_index items i)
  with_items_index i = go (nat_le at i) refl (nat_lt i (at + length news)) refl
    where
      go : (b : Bool) → nat_le at i ≡ b → (c : Bool) → nat_lt i (at + length news) ≡ c
          → slice_index (with_items_at items at news) i ≡ unwrap_or (byte_among at news i) (slice_index items i)
      go false p c q =
          let before : i < at = grind (arith, nat_tests, p) in
          let d = front_length in
          get_or_append_left (take at items) (news ++ drop (at + length news) items) 0 i (omega (arith, d, before))
          ∙ get_or-take at items i 0 before
          ∙ sym (ap (λ b. unwrap_or (cond b (slice_get news (i - at)) None) (slice_index items i)) p)
      go true p true q =
          let from : at ≤ i = grind (arith, nat_tests, p) in
          let to : i < at + length news = grind (arith, nat_tests, q) in
          let place : i - at < length news = omega (arith, from, to) in
          get_or-append_right (take at items) (news ++ drop (at + length news) items) at i 0 front_length from
          ∙ get_or_append_left news (drop (at + length news) items) 0 (i - at) place
          ∙ sym (ap (λ b. unwrap_or (cond b (slice_get news (i - at)) None) (slice_index items i)) p
          ∙ ap (λ o. unwrap_or o (slice_index items i)) (slice_get-get_or news (i - at) 0 place))
      go true p false q =
          let from : at ≤ i = grind (arith, nat_tests, p) in
          let past : at + length news ≤ i = grind (arith, nat_tests, q) in
          let here : at + length news + (i - at - length news) ≡ i = omega (arith, past) in
          get_or-append_right (take at items) (news ++ drop (at + length news) items) at i 0 front_length from
          ∙ get_or-append_right news (drop (at + length news) items) (length news) (i - at) 0 refl
          (omega (arith, past))
          ∙ get_or-drop (at + length news) items (i - at - length news) 0
          ∙ ap (slice_index items) here
          ∙ sym (ap (λ b. unwrap_or (cond b (slice_get news (i - at)) None) (slice_index items i)) p
          ∙ ap (λ o. unwrap_or o (slice_index items i)) (slice_get_past news (i - at) (omega (arith, past))))

zeros_after : (bytes : List ℕ) (n at : ℕ) → slice_index (bytes ++ zeros n) at ≡ slice_index bytes at
zeros_after bytes n at = go (nat_lt at (length bytes)) refl (nat_lt (at - length bytes) n) refl
  where
    go : (b : Bool) → nat_lt at (length bytes) ≡ b → (c : Bool) → nat_lt (at - length bytes) n ≡ c
        → slice_index (bytes ++ zeros n) at ≡ slice_index bytes at
    go true p c q = get_or_append_left bytes (zeros n) 0 at (grind (arith, nat_tests, p))
    go false p true q =
        let past : length bytes ≤ at = grind (arith, nat_tests, p) in
        get_or-append_right bytes (zeros n) (length bytes) at 0 refl past
        ∙ get_or-replicate n (at - length bytes) 0 0 (grind (arith, nat_tests, q)) ∙ sym (get_or_past bytes at 0 past)
    go false p false q =
        let past : length bytes ≤ at = grind (arith, nat_tests, p) in
        let more : n ≤ at - length bytes = grind (arith, nat_tests, q) in
        let long : length (zeros n) ≡ n = length-replicate {A = ℕ} n 0 in
        get_or-append_right bytes (zeros n) (length bytes) at 0 refl past
        ∙ get_or_past (zeros n) (at - length bytes) 0 (omega (arith, long, more))
        ∙ sym (get_or_past bytes at 0 past)

set_other : {X : Type 0} (items : List X) (i : ℕ) (x : X) (at : ℕ) → i ≢ at
    → slice_get (slice_set items i x) at ≡ slice_get items at
set_other [] i x at h = refl
set_other (y ∷ items) zero x zero h = absurd (h refl)
set_other (y ∷ items) zero x (suc at) h = refl
set_other (y ∷ items) (suc i) x zero h = refl
set_other (y ∷ items) (suc i) x (suc at) h = set_other items i x at (λ e. h (ap suc e))

set_item : {X : Type 0} (items : List X) (i : ℕ) (x : X) (at : ℕ) → i < length items
    → slice_get (slice_set items i x) at ≡ unwrap_or (cond (nat_eq i at) (Some (Some x)) None) (slice_get items at)
set_item items i x at below = go (nat_eq i at) refl
  where
    go : (b : Bool) → nat_eq i at ≡ b
        → slice_get (slice_set items i x) at ≡ unwrap_or (cond (nat_eq i at) (Some (Some x)) None) (slice_get items at)
    go true p =
        let same : i ≡ at = grind (arith, nat_tests, p) in
        subst (λ n. slice_get (slice_set items i x) n ≡ Some x) same (set_there items i x below)
        ∙ sym (ap (λ b. unwrap_or (cond b (Some (Some x)) None) (slice_get items at)) p)
    go false p =
        let differ : i ≢ at = λ e. grind (arith, nat_tests, p, e) in
        set_other items i x at differ
        ∙ sym (ap (λ b. unwrap_or (cond b (Some (Some x)) None) (slice_get items at)) p)

-- ---- a memory and a table

size_more : (memory : Memory) (by : ℕ) → length (with_pages by memory).bytes ≡ length memory.bytes + by * PAGE_SIZE
size_more memory by =
    length-append memory.bytes (zeros (by * PAGE_SIZE))
    ∙ ap (λ n. length memory.bytes + n) (length-replicate (by * PAGE_SIZE) 0)

set_entry : (entries : List (Option ℕ)) (index : ℕ) (func : Option ℕ) (at : ℕ) → index < length entries
    → option_flatten (slice_get (slice_set entries index func) at)
    ≡ unwrap_or (cond (nat_eq index at) (Some func) None) (option_flatten (slice_get entries at))
set_entry entries index func at below = ap option_flatten (set_item entries index func at below) ∙ go (nat_eq index at)
  where
    go : (b : Bool) → option_flatten (unwrap_or (cond b (Some (Some func)) None) (slice_get entries at))
        ≡ unwrap_or (cond b (Some func) None) (option_flatten (slice_get entries at))
    go true = refl
    go false = refl

more_entries : (entries : List (Option ℕ)) (left : ℕ) (func : Option ℕ) (at : ℕ) → length entries ≤ left
    → option_flatten (slice_get (entries ++ replicate (left - length entries) func) at)
    ≡ unwrap_or (cond (nat_le (length entries) at && nat_lt at left) (Some func) None)
    (option_flatten (slice_get entries at))
more_entries entries left func at more = go (nat_le (length entries) at) refl (nat_lt at left) refl
  where
    by : ℕ
    by = left - length entries

    go : (b : Bool) → nat_le (length entries) at ≡ b → (c : Bool) → nat_lt at left ≡ c
        → option_flatten (slice_get (entries ++ replicate by func) at)
        ≡ unwrap_or (cond (nat_le (length entries) at && nat_lt at left) (Some func) None)
        (option_flatten (slice_get entries at))
    go false p c q =
        ap option_flatten (get_front entries (replicate by func) at (grind (arith, nat_tests, p)))
        ∙ sym (ap (λ b. unwrap_or (cond (b && nat_lt at left) (Some func) None) (option_flatten (slice_get entries at)))
        p)
    go true p true q =
        let past : length entries ≤ at = grind (arith, nat_tests, p) in
        let below : at < left = grind (arith, nat_tests, q) in
        let inside : at - length entries < by = omega (arith, past, below) in
        let long : length (replicate by func) ≡ by = length-replicate by func in
        ap option_flatten
        (get_after entries (replicate by func) at past
        ∙ slice_get-get_or (replicate by func) (at - length entries) None (omega (arith, inside, long)))
        ∙ get_or-replicate by (at - length entries) func None inside
        ∙ sym (ap (λ b. unwrap_or (cond (b && nat_lt at left) (Some func) None) (option_flatten (slice_get entries at)))
        p
        ∙ ap (λ b. unwrap_or (cond b (Some func) None) (option_flatten (slice_get entries at))) q)
    go true p false q =
        let past : length entries ≤ at = grind (arith, nat_tests, p) in
        let over : left ≤ at = grind (arith, nat_tests, q) in
        let long : length (replicate by func) ≡ by = length-replicate by func in
        ap option_flatten
        (get_after entries (replicate by func) at past
        ∙ slice_get_past (replicate by func) (at - length entries) (omega (arith, past, over, long, more)))
        ∙ sym (ap (λ b. unwrap_or (cond (b && nat_lt at left) (Some func) None) (option_flatten (slice_get entries at)))
        p
        ∙ ap (λ b. unwrap_or (cond b (Some func) None) (option_flatten (slice_get entries at))) q
        ∙ ap option_flatten (slice_get_past entries at past))

-- ---- a store

-- a number of pages or entries after an observation
abbrev pub left_pages : ℕ → Observation → ℕ
left_pages n (Resizes found left) = n + (left - found)
left_pages n o = n

abbrev pub left_entries : ℕ → Observation → ℕ
left_entries n (ResizesTable found left func) = n + (left - found)
left_entries n o = n

abbrev pub left_bytes : ℕ → Observation → ℕ
left_bytes n (Resizes found left) = n + (left - found) * PAGE_SIZE
left_bytes n o = n

-- an observation changes a store, at each place
pub record IsChangedBy (store : Store) (o : Observation) (after : Store) : Type 0 where
  pub byte : (at : ℕ) → byte_of after.memory at ≡ unwrap_or (written_byte at o) (byte_of store.memory at)
  pub entry : (at : ℕ) → entry_of after.table at ≡ unwrap_or (written_entry at o) (entry_of store.table at)
  pub global : (at : ℕ) → slice_get after.globals at ≡ unwrap_or (written_global at o) (slice_get store.globals at)
  pub pages : pages_of after.memory ≡ left_pages (pages_of store.memory) o
  pub entries : table_length after.table ≡ left_entries (table_length store.table) o
  pub long : memory_length after.memory ≡ left_bytes (memory_length store.memory) o
  pub same : maxima after ≡ maxima store

module _ (memory : Option Memory) (table : Option Table) (globals : List Val) where
  abbrev it : Store
  it = record { memory = memory; table = table; globals = globals }

  unchanged : (o : Observation) → ((at : ℕ) → written_byte at o ≡ None) → ((at : ℕ) → written_entry at o ≡ None)
      → ((at : ℕ) → written_global at o ≡ None) → left_pages (pages_of memory) o ≡ pages_of memory
      → left_entries (table_length table) o ≡ table_length table
      → left_bytes (memory_length memory) o ≡ memory_length memory → IsChangedBy it o it
  unchanged o b e g p t l =
      record {
        byte = λ at. ap (λ w. unwrap_or w (byte_of memory at)) (sym (b at));
        entry = λ at. ap (λ w. unwrap_or w (entry_of table at)) (sym (e at));
        global = λ at. ap (λ w. unwrap_or w (slice_get globals at)) (sym (g at));
        pages = sym p;
        entries = sym t;
        long = sym l;
        same = refl;
      }

writes : (memory : Option Memory) (table : Option Table) (globals : List Val) (address : ℕ) (bytes : List ℕ)
    → IsThere memory → IfSome memory (λ m. address + length bytes ≤ length m.bytes)
    → IsChangedBy (it memory table globals) (Writes address bytes)
    (with_change (it memory table globals) (Writes address bytes))
writes None table globals address bytes here fits = absurd (none-some here.0 here.1)
writes (Some m) table globals address bytes here fits =
    record {
      byte = with_items_index m.bytes bytes address fits;
      entry = λ at. refl;
      global = λ at. refl;
      pages = ap (λ n. n / PAGE_SIZE) (with_items_length m.bytes bytes address fits);
      entries = refl;
      long = with_items_length m.bytes bytes address fits;
      same = refl;
    }

resizes : (memory : Option Memory) (table : Option Table) (globals : List Val) (found left : ℕ) → IsThere memory
    → IsChangedBy (it memory table globals) (Resizes found left)
    (with_change (it memory table globals) (Resizes found left))
resizes None table globals found left here = absurd (none-some here.0 here.1)
resizes (Some m) table globals found left here =
    record {
      byte = zeros_after m.bytes ((left - found) * PAGE_SIZE);
      entry = λ at. refl;
      global = λ at. refl;
      pages = larger_size m (left - found);
      entries = refl;
      long = size_more m (left - found);
      same = refl;
    }

sets : (memory : Option Memory) (table : Option Table) (globals : List Val) (index : ℕ) (func : Option ℕ)
    → IsThere table → IfSome table (λ t. index < length t.entries)
    → IsChangedBy (it memory table globals) (WritesEntry index func)
    (with_change (it memory table globals) (WritesEntry index func))
sets memory None globals index func here below = absurd (none-some here.0 here.1)
sets memory (Some t) globals index func here below =
    record {
      byte = λ at. refl;
      entry = λ at. set_entry t.entries index func at below;
      global = λ at. refl;
      pages = refl;
      entries = length-set t.entries index func;
      long = refl;
      same = refl;
    }

resizes_table : (memory : Option Memory) (table : Option Table) (globals : List Val) (found left : ℕ)
    (func : Option ℕ) → IsThere table → IfSome table (λ t. length t.entries ≡ found) → found ≤ left
    → IsChangedBy (it memory table globals) (ResizesTable found left func)
    (with_change (it memory table globals) (ResizesTable found left func))
resizes_table memory None globals found left func here is more = absurd (none-some here.0 here.1)
resizes_table memory (Some t) globals found left func here is more =
    record {
      byte = λ at. refl;
      entry = λ at.
          subst
          (λ n. option_flatten (slice_get (t.entries ++ replicate (left - n) func) at)
          ≡ unwrap_or (cond (nat_le n at && nat_lt at left) (Some func) None) (option_flatten (slice_get t.entries at)))
          is (more_entries t.entries left func at (subst (λ n. n ≤ left) (sym is) more));
      global = λ at. refl;
      pages = refl;
      entries =
          length-append t.entries (replicate (left - found) func)
          ∙ ap (λ n. length t.entries + n) (length-replicate (left - found) func);
      long = refl;
      same = refl;
    }

there_below : (globals : List Val) (x : ℕ) (value : Val)
    → option_map (λ v. v.ty) (slice_get globals x) ≡ Some value.ty → x < length globals
there_below [] x value h = cc
there_below (v ∷ globals) zero value h = omega arith
there_below (v ∷ globals) (suc x) value h = let below = there_below globals x value h in omega (arith, below)

-- a value is given to a global that exists
pub gives_global : (store : Store) (global : ℕ) (value : Val) → global < length store.globals
    → IsChangedBy store (WritesGlobal global value) (with_change store (WritesGlobal global value))
gives_global store global value below =
    record {
      byte = λ at. refl;
      entry = λ at. refl;
      global = λ at. set_item store.globals global value at below;
      pages = refl;
      entries = refl;
      long = refl;
      same = refl;
    }

-- an observation that a store answers, and that is possible in that store, changes it
pub changed_by : (store : Store) (o : Observation) → IsHere store o → Answers store o → CanChange store o
    → IsChangedBy store o (with_change store o)
changed_by store (Writes address bytes) here answers possible =
    writes store.memory store.table store.globals address bytes here possible
changed_by store (Resizes found left) here answers possible =
    resizes store.memory store.table store.globals found left here
changed_by store (WritesEntry index func) here answers possible =
    sets store.memory store.table store.globals index func here possible
changed_by store (ResizesTable found left func) here answers possible =
    resizes_table store.memory store.table store.globals found left func here answers possible
changed_by store (WritesGlobal global value) here answers possible =
    gives_global store global value (there_below store.globals global value possible)
changed_by store o here answers possible =
    unchanged store.memory store.table store.globals o (λ at. refl) (λ at. refl) (λ at. refl) refl refl refl
