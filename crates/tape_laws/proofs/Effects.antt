-- What effects leave at each place of a store.
use Rattle.std.proofs.Common.{◌≡◌, ℕ, ◌+◌, ◌-◌, ◌*◌, ◌<◌, ◌≤◌, List, [], ◌∷◌, length, Option, Some, None, Bool, true, false, cond, ◌&&◌, nat_le, nat_lt, nat_eq, slice_get, slice_index, slice_set, refl, sym, ap, ◌∙◌, subst, arith, length-set}
use Rattle.std.specs.Prelude.{IfSome, option_map, option_and_then, unwrap_or}
use Rattle.std.specs.Option.{option_or, option_flatten}
use Rattle.std.specs.List.{list_all}
use Rattle.std.proofs.lemmas.Bool.Decides.{nat_tests}
use Rattle.std.proofs.lemmas.Option.{slice_get-get_or, slice_get_past}
use Rattle.base.proofs.Booleans.{and_left, and_right}
use Rattle.base.proofs.Lists.{item_there}
use Rattle.base.proofs.Options.{first_else, or_first}
use Rattle.wasm_syntax.specs.declared.limits.TheConstants.{PAGE_SIZE}
use Rattle.wasm_syntax.specs.declared.values.Val.{Val}
use Rattle.trace_model.specs.declared.tapes.Effect.{Effect}
use Rattle.trace_model.specs.declared.tapes.Effect.TheVariants.{Grow, Table as GrowTable, Bytes, Entry, Global}
use Rattle.history_spec.specs.Store.{Store, Memory, Table, pages, with_items_at, with_memory, with_table, grown_memory_if, grown_table_if}
use Rattle.history_spec.specs.Instantiation.{memory_length, table_length}
use Rattle.record_replay_spec.specs.Observations.{Observation, Writes, Resizes, WritesEntry, ResizesTable, WritesGlobal}
use Rattle.record_replay_spec.specs.Known.{byte_among, byte_of, entry_of, last_some, written_byte, written_entry, written_global}
use Rattle.record_replay_spec.specs.Needed.{effect_byte, effect_entry, effect_global, effect_pages, effect_entries, has_bytes}
use Rattle.record_replay_spec.specs.TapeRun.{memory_of_size, table_of_size, memory_with, table_with, store_after_effect, store_after_effects}
use Rattle.record_replay_spec.specs.Changes.{with_change, with_bytes, with_pages, with_table_entry, with_entries}
use Rattle.record_replay_spec.specs.StoreAnswers.{allows_pages, allows_entries}
use Rattle.tape_laws.proofs.Stores.{maxima}
use Rattle.tape_laws.proofs.Changes.{IsChangedBy, left_bytes, left_entries, changed_by, gives_global}

-- the number of bytes after a growth to a number of pages, if any
abbrev pub bytes_left : Option ℕ → ℕ → ℕ
bytes_left None n = n
bytes_left (Some pages) n = pages * PAGE_SIZE

bytes_else : (a b : Option ℕ) (n : ℕ) → bytes_left (option_or a b) n ≡ bytes_left a (bytes_left b n)
bytes_else (Some x) b n = refl
bytes_else None b n = refl

-- an effect is performed
pub record IsDone (store : Store) (effect : Effect) (after : Store) : Type 0 where
  pub done : store_after_effect store effect ≡ Some after
  pub byte : (at : ℕ) → byte_of after.memory at ≡ unwrap_or (effect_byte at effect) (byte_of store.memory at)
  pub entry : (at : ℕ) → entry_of after.table at ≡ unwrap_or (effect_entry at effect) (entry_of store.table at)
  pub global : (at : ℕ)
      → slice_get after.globals at ≡ unwrap_or (effect_global at effect) (slice_get store.globals at)
  pub long : memory_length after.memory ≡ bytes_left (effect_pages effect) (memory_length store.memory)
  pub entries : table_length after.table ≡ unwrap_or (effect_entries effect) (table_length store.table)
  pub count : length after.globals ≡ length store.globals
  pub same : maxima after ≡ maxima store

-- an effect is performed as an observation changes the store
done_as : {store after : Store} {o : Observation} {effect : Effect} → store_after_effect store effect ≡ Some after
    → IsChangedBy store o after → ((at : ℕ) → written_byte at o ≡ effect_byte at effect)
    → ((at : ℕ) → written_entry at o ≡ effect_entry at effect)
    → ((at : ℕ) → written_global at o ≡ effect_global at effect)
    → left_bytes (memory_length store.memory) o ≡ bytes_left (effect_pages effect) (memory_length store.memory)
    → left_entries (table_length store.table) o ≡ unwrap_or (effect_entries effect) (table_length store.table)
    → length after.globals ≡ length store.globals → IsDone store effect after
done_as {store} done c byte entry global long entries count =
    record {
      done = done;
      byte = λ at. c.byte at ∙ ap (λ w. unwrap_or w (byte_of store.memory at)) (byte at);
      entry = λ at. c.entry at ∙ ap (λ w. unwrap_or w (entry_of store.table at)) (entry at);
      global = λ at. c.global at ∙ ap (λ w. unwrap_or w (slice_get store.globals at)) (global at);
      long = c.long ∙ long;
      entries = c.entries ∙ entries;
      count = count;
      same = c.same;
    }

-- a part of the store that exists is changed and put back
put_back : {X : Type 0} (put : X → Store) (find : X → Option X) (after : Option X → Store) (own : Option X) (x y : X)
    → own ≡ Some x → find x ≡ Some y → after (Some x) ≡ put y → option_map put (option_and_then find own)
    ≡ Some (after own)
put_back put find after own x y is found e =
    ap (λ o. option_map put (option_and_then find o)) is ∙ ap (option_map put) found ∙ ap Some (sym e)
    ∙ ap (λ o. Some (after o)) (sym is)

-- a list of effects is performed
pub record AreDone (store : Store) (effects : List Effect) (after : Store) : Type 0 where
  pub done : store_after_effects effects store ≡ Some after
  pub byte : (at : ℕ)
      → byte_of after.memory at ≡ unwrap_or (last_some (effect_byte at) effects) (byte_of store.memory at)
  pub entry : (at : ℕ)
      → entry_of after.table at ≡ unwrap_or (last_some (effect_entry at) effects) (entry_of store.table at)
  pub global : (at : ℕ)
      → slice_get after.globals at ≡ unwrap_or (last_some (effect_global at) effects) (slice_get store.globals at)
  pub long : memory_length after.memory ≡ bytes_left (last_some effect_pages effects) (memory_length store.memory)
  pub entries : table_length after.table ≡ unwrap_or (last_some effect_entries effects) (table_length store.table)
  pub same : maxima after ≡ maxima store

pub none_done : (store : Store) → AreDone store [] store
none_done store =
    record {
      done = refl;
      byte = λ at. refl;
      entry = λ at. refl;
      global = λ at. refl;
      long = refl;
      entries = refl;
      same = refl;
    }

pub more_done : (store next after : Store) (effect : Effect) (effects : List Effect) → IsDone store effect next
    → AreDone next effects after → AreDone store (effect ∷ effects) after
more_done store next after effect effects one rest =
    record {
      done = ap (option_and_then (store_after_effects effects)) one.done ∙ rest.done;
      byte = λ at.
          rest.byte at ∙ ap (unwrap_or (last_some (effect_byte at) effects)) (one.byte at)
          ∙ sym (first_else (last_some (effect_byte at) effects) (effect_byte at effect) (byte_of store.memory at));
      entry = λ at.
          rest.entry at ∙ ap (unwrap_or (last_some (effect_entry at) effects)) (one.entry at)
          ∙ sym (first_else (last_some (effect_entry at) effects) (effect_entry at effect) (entry_of store.table at));
      global = λ at.
          rest.global at ∙ ap (unwrap_or (last_some (effect_global at) effects)) (one.global at)
          ∙ sym
          (first_else (last_some (effect_global at) effects) (effect_global at effect) (slice_get store.globals at));
      long =
          rest.long ∙ ap (bytes_left (last_some effect_pages effects)) one.long
          ∙ sym (bytes_else (last_some effect_pages effects) (effect_pages effect) (memory_length store.memory));
      entries =
          rest.entries ∙ ap (unwrap_or (last_some effect_entries effects)) one.entries
          ∙ sym (first_else (last_some effect_entries effects) (effect_entries effect) (table_length store.table));
      same = rest.same ∙ one.same;
    }

-- ---- one effect

-- a growth of the memory is performed
pub grow_done : (store : Store) (memory : Memory) → store.memory ≡ Some memory
    → length memory.bytes ≡ pages memory * PAGE_SIZE → (size : ℕ) → pages memory ≤ size
    → allows_pages memory size ≡ true → IsDone store (Grow size) (with_change store (Resizes (pages memory) size))
grow_done store memory is whole size more allowed =
    let c : IsChangedBy store (Resizes (pages memory) size) (with_change store (Resizes (pages memory) size)) =
    changed_by store (Resizes (pages memory) size) (memory, is)
    (subst (λ o. IfSome o (λ m. pages m ≡ pages memory)) (sym is) refl) more in
    let l = c.long in
    let now : memory_length store.memory ≡ pages memory * PAGE_SIZE = ap memory_length is ∙ whole in
    record {
      done =
          ap (λ o. option_map (with_memory store) (option_and_then (memory_of_size size) o)) is
          ∙ ap (λ b. option_map (with_memory store) (cond b (grown_memory_if (allows_pages memory (pages memory + by))
          memory by) None)) test
          ∙ ap (λ b. option_map (with_memory store) (grown_memory_if b memory by))
          (ap (allows_pages memory) to ∙ allowed)
          ∙ ap (λ o. Some (record store { memory = option_map (with_pages by) o })) (sym is);
      byte = c.byte;
      entry = c.entry;
      global = c.global;
      long = l ∙ ap (λ n. n + by * PAGE_SIZE) now ∙ sum;
      entries = c.entries;
      count = refl;
      same = c.same;
    }
  where
    by : ℕ
    by = size - pages memory

    to : pages memory + by ≡ size
    to = omega (arith, more)

    test : nat_le (pages memory) size ≡ true
    test = grind (arith, nat_tests, more)

    sum : pages memory * PAGE_SIZE + by * PAGE_SIZE ≡ size * PAGE_SIZE
    sum = omega (arith, more)

-- a growth of the table is performed
pub grow_table_done : (store : Store) (table : Table) → store.table ≡ Some table → (size : ℕ)
    → length table.entries ≤ size → allows_entries table size ≡ true
    → IsDone store (GrowTable size) (with_change store (ResizesTable (length table.entries) size None))
grow_table_done store table is size more allowed =
    let c : IsChangedBy store (ResizesTable (length table.entries) size None)
    (with_change store (ResizesTable (length table.entries) size None)) =
    changed_by store (ResizesTable (length table.entries) size None) (table, is)
    (subst (λ o. IfSome o (λ t. length t.entries ≡ length table.entries)) (sym is) refl) more in
    let l = c.entries in
    let now : table_length store.table ≡ length table.entries = ap table_length is in
    record {
      done =
          ap (λ o. option_map (with_table store) (option_and_then (table_of_size size) o)) is
          ∙ ap (λ b. option_map (with_table store)
          (cond b (grown_table_if (allows_entries table (length table.entries + by)) table by None) None)) test
          ∙ ap (λ b. option_map (with_table store) (grown_table_if b table by None))
          (ap (allows_entries table) to ∙ allowed)
          ∙ ap (λ o. Some (record store { table = option_map (with_entries by None) o })) (sym is);
      byte = c.byte;
      entry = λ at. c.entry at ∙ empty at (nat_le (length table.entries) at) refl;
      global = c.global;
      long = c.long;
      entries = l ∙ ap (λ n. n + by) now ∙ to;
      count = refl;
      same = c.same;
    }
  where
    by : ℕ
    by = size - length table.entries

    to : length table.entries + by ≡ size
    to = omega (arith, more)

    test : nat_le (length table.entries) size ≡ true
    test = grind (arith, nat_tests, more)

    past : (at : ℕ) → length table.entries ≤ at → entry_of store.table at ≡ None
    past at h =
        ap (λ o. entry_of o at) is
        ∙ ap option_flatten (slice_get_past table.entries at h)

    empty : (at : ℕ) (b : Bool) → nat_le (length table.entries) at ≡ b
        → unwrap_or (cond (nat_le (length table.entries) at && nat_lt at size) (Some None) None)
        (entry_of store.table at) ≡ entry_of store.table at
    empty at false p =
        ap (λ b. unwrap_or (cond (b && nat_lt at size) (Some None) None) (entry_of store.table at)) p
    empty at true p =
        let none = past at (grind (arith, nat_tests, p)) in
        ap (unwrap_or (cond (nat_le (length table.entries) at && nat_lt at size) (Some None) None)) none
        ∙ go (nat_le (length table.entries) at && nat_lt at size) ∙ sym none
      where
        nothing : Option ℕ
        nothing = None

        go : (b : Bool) → unwrap_or (cond b (Some nothing) None) nothing ≡ nothing
        go true = refl
        go false = refl

module _ (store : Store) where
  -- bytes are put into the memory if they are within it
  bytes_put : (memory : Memory) → store.memory ≡ Some memory → (address : ℕ) (bytes : List ℕ)
      → nat_le (address + length bytes) (length memory.bytes) ≡ true
      → store_after_effect store (Bytes address bytes) ≡ Some (with_change store (Writes address bytes))
  bytes_put memory is address bytes test =
      put_back (with_memory store) (memory_with address bytes)
      (λ o. record store { memory = option_map (with_bytes address bytes) o }) store.memory memory
      (with_bytes address bytes memory) is
      (ap (λ b. option_map (λ all. record memory { bytes = all })
      (cond b (Some (with_items_at memory.bytes address bytes)) None)) test) refl

  pub bytes_done : (memory : Option Memory) → store.memory ≡ memory → (address : ℕ) (bytes : List ℕ)
      → 0 < length bytes → address + length bytes ≤ memory_length memory
      → IsDone store (Bytes address bytes) (with_change store (Writes address bytes))
  bytes_done None is address bytes some fits = absurd (omega (arith, some, fits))
  bytes_done (Some memory) is address bytes some fits =
      let c : IsChangedBy store (Writes address bytes) (with_change store (Writes address bytes)) =
      changed_by store (Writes address bytes) (memory, is) tt
      (subst (λ o. IfSome o (λ (m : Memory). address + length bytes ≤ length m.bytes)) (sym is) fits) in
      done_as (bytes_put memory is address bytes test) c (λ at. refl) (λ at. refl) (λ at. refl) refl refl refl
    where
      test : nat_le (address + length bytes) (length memory.bytes) ≡ true
      test = grind (arith, nat_tests, fits)

  pub entry_done : (table : Option Table) → store.table ≡ table → (index : ℕ) (func : Option ℕ)
      → index < table_length table → IsDone store (Entry index func) (with_change store (WritesEntry index func))
  entry_done None is index func below = absurd (omega (arith, below))
  entry_done (Some table) is index func below =
      let c : IsChangedBy store (WritesEntry index func) (with_change store (WritesEntry index func)) =
      changed_by store (WritesEntry index func) (table, is) tt
      (subst (λ o. IfSome o (λ (t : Table). index < length t.entries)) (sym is) below) in
      done_as
      (put_back (with_table store) (table_with index func)
      (λ o. record store { table = option_map (with_table_entry index func) o }) store.table table
      (with_table_entry index func table) is
      (ap (λ b. option_map (λ all. record table { entries = all })
      (cond b (Some (slice_set table.entries index func)) None)) test) refl)
      c (λ at. refl) (λ at. refl) (λ at. refl) refl refl refl
    where
      test : nat_lt index (length table.entries) ≡ true
      test = grind (arith, nat_tests, below)

  pub global_done : (global : ℕ) (value : Val) → global < length store.globals
      → IsDone store (Global global value) (with_change store (WritesGlobal global value))
  global_done global value below =
      let c = gives_global store global value below in
      let there = item_there store.globals global below in
      done_as (ap (option_map (λ old. with_change store (WritesGlobal global value))) there.1) c (λ at. refl)
      (λ at. refl) (λ at. refl) refl refl (length-set store.globals global value)

-- ---- changes without growth

-- the effect changes no size
abbrev pub IsChange : Effect → Type 0
IsChange (Grow pages) = ⊥
IsChange (GrowTable size) = ⊥
IsChange effect = Unit {0}

abbrev pub AreChanges : List Effect → Type 0
AreChanges [] = Unit {0}
AreChanges (effect ∷ effects) = IsChange effect × AreChanges effects

-- all that effects change is within the sizes of a store
pub record AreWithin (store : Store) (effects : List Effect) : Type 0 where
  pub bytes : (at x : ℕ) → last_some (effect_byte at) effects ≡ Some x → at < memory_length store.memory
  pub entries : (at : ℕ) (x : Option ℕ) → last_some (effect_entry at) effects ≡ Some x → at < table_length store.table
  pub globals : (at : ℕ) (x : Option Val) → last_some (effect_global at) effects ≡ Some x → at < length store.globals

pub or_second : {X : Type 0} (a b : Option X) (x : X) → b ≡ Some x → (y : X) × (option_or a b ≡ Some y)
or_second (Some y) b x h = (y, refl)
or_second None b x h = (x, h)

within_rest : (store next : Store) (effect : Effect) (effects : List Effect)
    → memory_length next.memory ≡ memory_length store.memory → table_length next.table ≡ table_length store.table
    → length next.globals ≡ length store.globals → AreWithin store (effect ∷ effects) → AreWithin next effects
within_rest store next effect effects long entries count within =
    record {
      bytes = λ at x h.
          subst (λ n. at < n) (sym long)
          (within.bytes at x (or_first (last_some (effect_byte at) effects) (effect_byte at effect) x h));
      entries = λ at x h.
          subst (λ n. at < n) (sym entries)
          (within.entries at x (or_first (last_some (effect_entry at) effects) (effect_entry at effect) x h));
      globals = λ at x h.
          subst (λ n. at < n) (sym count)
          (within.globals at x (or_first (last_some (effect_global at) effects) (effect_global at effect) x h));
    }

pub last_among : (address : ℕ) (bytes : List ℕ) → 0 < length bytes
    → byte_among address bytes (address + (length bytes - 1)) ≡ Some (slice_index bytes (length bytes - 1))
last_among address bytes some =
    let place : ℕ = length bytes - 1 in
    let t : nat_le address (address + (length bytes - 1)) ≡ true = grind (arith, nat_tests) in
    let same : address + (length bytes - 1) - address ≡ length bytes - 1 = omega arith in
    ap (λ b. cond b (slice_get bytes (address + (length bytes - 1) - address)) None) t
    ∙ ap (slice_get bytes) same
    ∙ slice_get-get_or bytes (length bytes - 1) 0 (omega (arith, some))

pub some_bytes : (address : ℕ) (bytes : List ℕ) → has_bytes (Bytes address bytes) ≡ true → 0 < length bytes
some_bytes address [] h = cc
some_bytes address (b ∷ bytes) h = omega arith

pub changes_done : (store : Store) (effects : List Effect) → AreChanges effects → list_all has_bytes effects ≡ true
    → AreWithin store effects → (after : Store) × AreDone store effects after
changes_done store [] are some within = (store, none_done store)
changes_done store (Grow pages ∷ effects) are some within = absurd are.0
changes_done store (GrowTable size ∷ effects) are some within = absurd are.0
changes_done store (Bytes address bytes ∷ effects) are some within =
    let filled = some_bytes address bytes (and_left (has_bytes (Bytes address bytes)) (list_all has_bytes effects) some)
    in
    let last = or_second (last_some (effect_byte (address + (length bytes - 1))) effects)
    (effect_byte (address + (length bytes - 1)) (Bytes address bytes)) _ (last_among address bytes filled) in
    let below = within.bytes (address + (length bytes - 1)) last.0 last.1 in
    let fits : address + length bytes ≤ memory_length store.memory = omega (arith, filled, below) in
    let one = bytes_done store store.memory refl address bytes filled fits in
    let next = with_change store (Writes address bytes) in
    let rest = changes_done next effects are.1
    (and_right (has_bytes (Bytes address bytes)) (list_all has_bytes effects) some)
    (within_rest store next (Bytes address bytes) effects one.long one.entries one.count within) in
    (rest.0, more_done store next rest.0 (Bytes address bytes) effects one rest.1)
changes_done store (Entry index func ∷ effects) are some within =
    let same : nat_eq index index ≡ true = grind (arith, nat_tests) in
    let last = or_second (last_some (effect_entry index) effects) (effect_entry index (Entry index func)) func
    (ap (λ b. cond b (Some func) None) same) in
    let one = entry_done store store.table refl index func (within.entries index last.0 last.1) in
    let next = with_change store (WritesEntry index func) in
    let rest = changes_done next effects are.1 (and_right true (list_all has_bytes effects) some)
    (within_rest store next (Entry index func) effects one.long one.entries one.count within) in
    (rest.0, more_done store next rest.0 (Entry index func) effects one rest.1)
changes_done store (Global global value ∷ effects) are some within =
    let same : nat_eq global global ≡ true = grind (arith, nat_tests) in
    let last = or_second (last_some (effect_global global) effects) (effect_global global (Global global value))
    (Some value) (ap (λ b. cond b (Some (Some value)) None) same) in
    let one = global_done store global value (within.globals global last.0 last.1) in
    let next = with_change store (WritesGlobal global value) in
    let rest = changes_done next effects are.1 (and_right true (list_all has_bytes effects) some)
    (within_rest store next (Global global value) effects one.long one.entries one.count within) in
    (rest.0, more_done store next rest.0 (Global global value) effects one rest.1)
